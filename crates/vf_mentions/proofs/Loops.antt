-- Loops over lists: what was found, with what the rest of the list mentions behind it, stays the same from item to item.
use Rattle.std.proofs.Common.{◌≡◌, ℕ, ◌+◌, ◌≤◌, List, [], ◌∷◌, ◌++◌, append_assoc, length, drop, Some, None, slice_get, sym, ap, ◌∙◌}
use Rattle.std.proofs.lemmas.List.{append-nil}
use Rattle.vf_syntax.specs.StmtTree.{StmtTree, stmt_list}
use Rattle.vf_mentions.specs.declared.mention.Mention.{Mention}
use Rattle.vf_mentions.specs.Mentioned.{Locals}
use Rattle.vf_mentions.specs.Bodies.{mentioned_in_stmt, mentioned_in_stmts, visible_behind}
use Rattle.vf_mentions.proofs.Lists.{left_at, left_none, left_end}

-- one more item
pub one_more : {A M : Type 0} (g : A → List M) (f : List A → List M) → ((x : A) (xs : List A) → f (x ∷ xs) ≡ g x ++ f xs) → (xs : List A) (i : ℕ) (x : A) (s t whole : List M) → slice_get xs i ≡ Some x → t ≡ s ++ g x → s ++ f (drop i xs) ≡ whole → t ++ f (drop (i + 1) xs) ≡ whole
one_more g f step xs i x s t whole h ht kept =
    let rest = f (drop (i + 1) xs) in
    ap (λ a. a ++ rest) ht ∙ append_assoc s (g x) rest ∙ sym (ap (λ a. s ++ a) (ap f (left_at xs i x h) ∙ step x (drop (i + 1) xs))) ∙ kept

-- nothing is left
pub nothing_left : {A M : Type 0} (f : List A → List M) → f [] ≡ [] → (xs : List A) (s whole : List M) → xs ≡ [] → s ++ f xs ≡ whole → s ≡ whole
nothing_left f none xs s whole h kept = sym (ap (λ a. s ++ a) (ap f h ∙ none) ∙ append-nil s) ∙ kept

-- no item stands at an index
pub no_item : {A M : Type 0} (f : List A → List M) → f [] ≡ [] → (xs : List A) (i : ℕ) (s whole : List M) → slice_get xs i ≡ None → s ++ f (drop i xs) ≡ whole → s ≡ whole
no_item f none xs i s whole h kept = nothing_left f none (drop i xs) s whole (left_none xs i h) kept

-- the list is done
pub all_done : {A M : Type 0} (f : List A → List M) → f [] ≡ [] → (xs : List A) (i : ℕ) (s whole : List M) → length xs ≤ i → s ++ f (drop i xs) ≡ whole → s ≡ whole
all_done f none xs i s whole h kept = nothing_left f none (drop i xs) s whole (left_end xs i h) kept

-- one more statement, behind which other locals are visible
pub stmts_more : (xs : List StmtTree) (i : ℕ) (x : StmtTree) (l m : Locals) (s t whole : List Mention) → slice_get xs i ≡ Some x → m ≡ visible_behind l x → t ≡ s ++ mentioned_in_stmt l x → s ++ mentioned_in_stmts l (stmt_list (drop i xs)) ≡ whole → t ++ mentioned_in_stmts m (stmt_list (drop (i + 1) xs)) ≡ whole
stmts_more xs i x l m s t whole h hm ht kept =
    let rest = λ (v : Locals). mentioned_in_stmts v (stmt_list (drop (i + 1) xs)) in
    ap (λ a. a ++ rest m) ht ∙ ap (λ v. (s ++ mentioned_in_stmt l x) ++ rest v) hm ∙ append_assoc s (mentioned_in_stmt l x) (rest (visible_behind l x)) ∙ sym (ap (λ ys. s ++ mentioned_in_stmts l (stmt_list ys)) (left_at xs i x h)) ∙ kept
