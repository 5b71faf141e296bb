-- What is looked for, and counted, among the last of some declarations.
use Rattle.std.proofs.Common.{◌≡◌, ℕ, zero, suc, ◌+◌, ◌≤◌, ◌<◌, Bool, true, false, ◌||◌, List, [], ◌∷◌, ◌++◌, append_assoc, length, drop, Some, None, slice_get, refl, sym, ap, ◌∙◌, arith}
use Rattle.std.specs.List.{list_any}
use Rattle.vf_declared.specs.declared.declaration.GhostDeclaration.{GhostDeclaration}
use Rattle.vf_datatypes.specs.Datatypes.{numbers_from}
use Rattle.vf_datatypes.proofs.Lists.{left_at, left_end, left_none, none_behind}

at : {A : Type 0} (p : A → Bool) (xs : List A) (i : ℕ) (x : A) → slice_get xs i ≡ Some x → list_any p (drop i xs) ≡ (p x || list_any p (drop (i + 1) xs))
at p xs i x h = ap (list_any p) (left_at xs i x h)

-- one is found
pub any_here : {A : Type 0} (p : A → Bool) (xs : List A) (i : ℕ) (x : A) (whole : Bool) → slice_get xs i ≡ Some x → p x ≡ true → list_any p (drop i xs) ≡ whole → true ≡ whole
any_here p xs i x whole h yes_ kept = sym (at p xs i x h ∙ ap (λ b. b || list_any p (drop (i + 1) xs)) yes_) ∙ kept

-- one is not such
pub any_further : {A : Type 0} (p : A → Bool) (xs : List A) (i : ℕ) (x : A) (whole : Bool) → slice_get xs i ≡ Some x → p x ≡ false → list_any p (drop i xs) ≡ whole → list_any p (drop (i + 1) xs) ≡ whole
any_further p xs i x whole h no_ kept = sym (at p xs i x h ∙ ap (λ b. b || list_any p (drop (i + 1) xs)) no_) ∙ kept

-- none stands at an index
pub any_none : {A : Type 0} (p : A → Bool) (xs : List A) (i : ℕ) (whole : Bool) → slice_get xs i ≡ None → list_any p (drop i xs) ≡ whole → false ≡ whole
any_none p xs i whole h kept = sym (ap (list_any p) (left_none xs i h)) ∙ kept

-- none is such
pub any_nowhere : {A : Type 0} (p : A → Bool) (xs : List A) (i : ℕ) (whole : Bool) → length xs ≤ i → list_any p (drop i xs) ≡ whole → false ≡ whole
any_nowhere p xs i whole h kept = sym (ap (list_any p) (left_end xs i h)) ∙ kept

-- an index below the length has an item
found : {A : Type 0} (xs : List A) (i : ℕ) → i < length xs → (x : A) × (slice_get xs i ≡ Some x)
found [] i h = absurd (omega (arith, h))
found (x ∷ xs) zero h = (x, refl)
found (x ∷ xs) (suc i) h = found xs i (omega (arith, h))

numbers_at : (gs : List GhostDeclaration) (i : ℕ) → i < length gs → numbers_from i (drop i gs) ≡ i ∷ numbers_from (i + 1) (drop (i + 1) gs)
numbers_at gs i h = let f = found gs i h in ap (numbers_from i) (left_at gs i f.0 f.1)

-- one more number
pub numbers_more : (gs : List GhostDeclaration) (i : ℕ) (ns ms whole : List ℕ) → i < length gs → ms ≡ ns ++ i ∷ [] → ns ++ numbers_from i (drop i gs) ≡ whole → ms ++ numbers_from (i + 1) (drop (i + 1) gs) ≡ whole
numbers_more gs i ns ms whole h q kept =
    ap (λ ks. ks ++ numbers_from (i + 1) (drop (i + 1) gs)) q
    ∙ append_assoc ns (i ∷ []) (numbers_from (i + 1) (drop (i + 1) gs))
    ∙ sym (ap (λ ks. ns ++ ks) (numbers_at gs i h))
    ∙ kept

-- all numbers
pub numbers_end : (gs : List GhostDeclaration) (i : ℕ) (ns whole : List ℕ) → length gs ≤ i → ns ++ numbers_from i (drop i gs) ≡ whole → ns ≡ whole
numbers_end gs i ns whole h kept = sym (ap (λ ds. ns ++ numbers_from i ds) (left_end gs i h) ∙ none_behind ns) ∙ kept
