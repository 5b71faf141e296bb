-- Locals that are visible: by their numbers, and behind statements.
use Rattle.std.proofs.Common.{◌≡◌, ℕ, ◌+◌, ◌≤◌, cond, Bool, true, false, ◌||◌, List, [], ◌∷◌, ◌++◌, length, length-append, take, Option, Some, refl, sym, ap, ◌∙◌, arith}
use Rattle.std.proofs.lemmas.List.{append-nil, take-append-le}
use Rattle.std.specs.List.{list_any, position_from}
use Rattle.std.specs.Option.{is_some}
use Rattle.std.specs.Str.{bytes_eq}
use Rattle.vf_names.specs.Names.{number_of}
use Rattle.vf_syntax.specs.StmtTree.{StmtTree}
use Rattle.vf_syntax.specs.StmtTree as tree
use Rattle.vf_mentions.specs.Mentioned.{Locals}
use Rattle.vf_mentions.specs.Bodies.{visible_behind}

-- an item has a position where one passes the test
positioned : {A : Type 0} (t : A → Bool) (i : ℕ) (xs : List A) → is_some (position_from t i xs) ≡ list_any t xs
positioned t i [] = refl
positioned t i (x ∷ xs) = by_test (t x) i (position_from t (i + 1) xs) (list_any t xs) (positioned t (i + 1) xs)
  where
    by_test : (b : Bool) (i : ℕ) (o : Option ℕ) (r : Bool) → is_some o ≡ r → is_some (cond b (Some i) o) ≡ (b || r)
    by_test true i o r h = refl
    by_test false i o r h = h

-- a name has a number where it is one of some
pub numbered : (names : List (List ℕ)) (name : List ℕ) → is_some (number_of names name) ≡ list_any (bytes_eq name) names
numbered names name = positioned (bytes_eq name) 0 names

-- what a statement declares stands behind the locals before it
declared : (l : Locals) (x : StmtTree) → (ns : Locals) × (visible_behind l x ≡ l ++ ns)
declared l (tree.declaration p t n a q) = (n.text ∷ [], refl)
declared l (tree.simple p s q) = ([], sym (append-nil l))
declared l (tree.if_ p a x) = ([], sym (append-nil l))
declared l (tree.if_else p a x y) = ([], sym (append-nil l))
declared l (tree.while_ p a i x) = ([], sym (append-nil l))
declared l (tree.for_ p f a s i x) = ([], sym (append-nil l))
declared l (tree.return_ p a q) = ([], sym (append-nil l))
declared l (tree.block p xs q) = ([], sym (append-nil l))
declared l (tree.empty_ p) = ([], sym (append-nil l))
declared l (tree.ghost p c) = ([], sym (append-nil l))

-- the first locals stay behind a statement
pub begin_more : (b l m : Locals) (x : StmtTree) → m ≡ visible_behind l x → length b ≤ length l → take (length b) l ≡ b → take (length b) m ≡ b
begin_more b l m x hm h kept = by_rest (declared l x)
  where
    by_rest : (ns : Locals) × (visible_behind l x ≡ l ++ ns) → take (length b) m ≡ b
    by_rest (ns, e) = ap (take (length b)) (hm ∙ e) ∙ take-append-le (length b) l ns h ∙ kept

-- there are no fewer
pub there_more : (b l m : Locals) (x : StmtTree) → m ≡ visible_behind l x → length b ≤ length l → length b ≤ length m
there_more b l m x hm h = by_rest (declared l x)
  where
    by_rest : (ns : Locals) × (visible_behind l x ≡ l ++ ns) → length b ≤ length m
    by_rest (ns, e) = let many : length m ≡ length l + length ns = ap length (hm ∙ e) ∙ length-append l ns in omega (arith, many)
