-- Texts of lists with commas between their items, item by item.
use Rattle.std.proofs.Common.{◌≡◌, ℕ, zero, suc, ◌+◌, ◌<◌, ◌≤◌, ◌≢◌, List, [], ◌∷◌, ◌++◌, length, drop, slice_get, Some, refl, sym, ap, ◌∙◌, append_assoc, arith}
use Rattle.std.specs.Prelude.{map, codes}
use Rattle.std.specs.List.{join_with_byte}
use Rattle.std.proofs.lemmas.List.{append-nil}
use Rattle.vf_sorts.specs.Sorts.{Sort, Sorts, sort, no_sorts, and_sort, row, size_of, size_of_row}
use Rattle.vf_manifest.specs.Trees as trees
use Rattle.vf_manifest.specs.Trees.{bare, joined}
use Rattle.vf_promises.specs.Signatures.{brackets_text, comma_before, datatype_shape, sort_text, trees_of}
use Rattle.vf_promises.proofs.Numbered.{left_at, left_end}

-- one item more: it stands behind a comma, unless it is the first
pub one_more : {A : Type 0} (left : ℕ → List A → List ℕ) (f : A → List ℕ) → ((n : ℕ) (x : A) (xs : List A) → left n (x ∷ xs) ≡ comma_before n ++ (f x ++ left (n + 1) xs))
    → (xs : List A) (at : ℕ) (x : A) (old mid new whole : List ℕ) → slice_get xs at ≡ Some x → mid ≡ old ++ comma_before at → new ≡ mid ++ f x → old ++ left at (drop at xs) ≡ whole → new ++ left (at + 1) (drop (at + 1) xs) ≡ whole
one_more left f step xs at x old mid new whole is comma text before =
    let rest = left (at + 1) (drop (at + 1) xs) in
    ap (λ t. t ++ rest) (text ∙ ap (λ t. t ++ f x) comma)
    ∙ append_assoc (old ++ comma_before at) (f x) rest
    ∙ append_assoc old (comma_before at) (f x ++ rest)
    ∙ ap (λ t. old ++ t) (sym (step at x (drop (at + 1) xs)))
    ∙ ap (λ l. old ++ left at l) (sym (left_at xs at x is))
    ∙ before

-- no item more
pub no_more : {A : Type 0} (left : ℕ → List A → List ℕ) → ((n : ℕ) → left n [] ≡ []) → (xs : List A) (at : ℕ) (old whole : List ℕ) → length xs ≤ at → old ++ left at (drop at xs) ≡ whole → old ≡ whole
no_more left none xs at old whole all before =
    sym (append-nil old) ∙ ap (λ t. old ++ t) (sym (none at)) ∙ ap (λ l. old ++ left at l) (sym (left_end xs at all)) ∙ before

-- ---- texts

-- what is left of some texts behind so many others
abbrev pub left_texts : ℕ → List (List ℕ) → List ℕ
left_texts zero xs = join_with_byte 44 xs
left_texts (suc n) [] = []
left_texts (suc n) (x ∷ xs) = 44 ∷ join_with_byte 44 (x ∷ xs)

texts_step : (n : ℕ) (x : List ℕ) (xs : List (List ℕ)) → left_texts n (x ∷ xs) ≡ comma_before n ++ (x ++ left_texts (n + 1) xs)
texts_step zero x [] = sym (append-nil x)
texts_step zero x (y ∷ ys) = refl
texts_step (suc n) x [] = let e : suc n + 1 ≡ suc (n + 1) = omega arith in rw e (ap (λ t. 44 ∷ t) (sym (append-nil x)))
texts_step (suc n) x (y ∷ ys) = let e : suc n + 1 ≡ suc (n + 1) = omega arith in rw e refl

texts_none : (n : ℕ) → left_texts n [] ≡ []
texts_none zero = refl
texts_none (suc n) = refl

-- one text more
pub text_more : {A : Type 0} (f : A → List ℕ) (xs : List A) (at : ℕ) (x : A) (old mid new whole : List ℕ) → slice_get xs at ≡ Some x → mid ≡ old ++ comma_before at → new ≡ mid ++ f x
    → old ++ left_texts at (map f (drop at xs)) ≡ whole → new ++ left_texts (at + 1) (map f (drop (at + 1) xs)) ≡ whole
text_more f = one_more (λ n xs. left_texts n (map f xs)) f (λ n x xs. texts_step n (f x) (map f xs))

-- no text more
pub text_end : {A : Type 0} (f : A → List ℕ) (xs : List A) (at : ℕ) (old whole : List ℕ) → length xs ≤ at → old ++ left_texts at (map f (drop at xs)) ≡ whole → old ≡ whole
text_end f = no_more (λ n xs. left_texts n (map f xs)) texts_none

-- ---- sorts

-- what is left of some sorts behind so many others
abbrev pub left_trees : ℕ → trees.Sorts → List ℕ
left_trees zero ss = bare (joined ss)
left_trees (suc n) ss = joined ss

-- the same by the names of datatypes
abbrev pub left_sorts : List (List ℕ) → ℕ → List Sort → List ℕ
left_sorts names n ss = left_trees n (trees_of names (row ss))

trees_next : (n : ℕ) (ss : trees.Sorts) → left_trees (n + 1) ss ≡ joined ss
trees_next n ss = let e : n + 1 ≡ suc n = omega arith in ap (λ k. left_trees k ss) e

sorts_step : (names : List (List ℕ)) (n : ℕ) (s : Sort) (ss : List Sort) → left_sorts names n (s ∷ ss) ≡ comma_before n ++ (sort_text names s ++ left_sorts names (n + 1) ss)
sorts_step names zero (sort h ts) ss = refl
sorts_step names (suc n) (sort h ts) ss = ap (λ t. 44 ∷ (sort_text names (sort h ts) ++ t)) (sym (trees_next (suc n) (trees_of names (row ss))))

sorts_none : (names : List (List ℕ)) (n : ℕ) → left_sorts names n [] ≡ []
sorts_none names zero = refl
sorts_none names (suc n) = refl

-- one sort more
pub sort_more : (names : List (List ℕ)) (ss : List Sort) (at : ℕ) (s : Sort) (old mid new whole : List ℕ) → slice_get ss at ≡ Some s → mid ≡ old ++ comma_before at → new ≡ mid ++ sort_text names s
    → old ++ left_sorts names at (drop at ss) ≡ whole → new ++ left_sorts names (at + 1) (drop (at + 1) ss) ≡ whole
sort_more names = one_more (left_sorts names) (sort_text names) (sorts_step names)

-- no sort more
pub sort_end : (names : List (List ℕ)) (ss : List Sort) (at : ℕ) (old whole : List ℕ) → length ss ≤ at → old ++ left_sorts names at (drop at ss) ≡ whole → old ≡ whole
sort_end names = no_more (left_sorts names) (sorts_none names)

-- a sort is smaller than the sorts among which it stands
pub sort_smaller : (ss : List Sort) (at : ℕ) (s : Sort) → slice_get ss at ≡ Some s → size_of s < size_of_row (row ss)
sort_smaller [] at s is = absurd cc
sort_smaller (t ∷ ts) zero s is = let e : t ≡ s = cc in rw e (omega arith)
sort_smaller (t ∷ ts) (suc at) s is = omega (arith, sort_smaller ts at s is)

-- a datatype's name, and behind it its sorts in brackets
pub datatype_text : (names : List (List ℕ)) (x : List ℕ) (ts : Sorts) → trees.sort_text (datatype_shape x ts) (trees.sorts_text (trees_of names ts)) ≡ x ++ brackets_text names ts
datatype_text names x no_sorts = sym (append-nil x)
datatype_text names x (and_sort t ts) = refl

-- sorts in brackets, where there are any
pub brackets_made : (names : List (List ℕ)) (ss : List Sort) (old first second new : List ℕ) → length ss ≢ 0 → first ≡ old ++ codes "<" → second ≡ first ++ trees.sorts_text (trees_of names (row ss)) → new ≡ second ++ codes ">" → new ≡ old ++ brackets_text names (row ss)
brackets_made names [] old first second new some a b c = absurd (some refl)
brackets_made names (s ∷ ss) old first second new some a b c =
    let text = trees.sorts_text (trees_of names (row (s ∷ ss))) in
    c
    ∙ ap (λ t. t ++ codes ">") (b ∙ ap (λ t. t ++ text) a)
    ∙ append_assoc (old ++ codes "<") text (codes ">")
    ∙ append_assoc old (codes "<") (text ++ codes ">")
