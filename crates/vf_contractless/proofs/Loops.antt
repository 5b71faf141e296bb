-- Loops that look for an item: what is left comes to the same as the whole.
use Rattle.std.proofs.Common.{◌≡◌, ℕ, zero, suc, ◌+◌, ◌≤◌, Bool, true, false, ◌||◌, if◌then◌else◌, List, [], ◌∷◌, length, drop, Option, Some, None, slice_get, refl, sym, ap, ◌∙◌, arith}
use Rattle.std.specs.List.{find, list_any}

left_at : {A : Type 0} (xs : List A) (i : ℕ) (x : A) → slice_get xs i ≡ Some x → drop i xs ≡ x ∷ drop (i + 1) xs
left_at [] i x h = absurd cc
left_at (y ∷ xs) zero x h = let e : y ≡ x = cc in rw e refl
left_at (y ∷ xs) (suc i) x h = let step : suc i + 1 ≡ suc (i + 1) = omega arith in rw step (left_at xs i x h)

left_none : {A : Type 0} (xs : List A) (i : ℕ) → slice_get xs i ≡ None → drop i xs ≡ []
left_none [] zero h = refl
left_none [] (suc i) h = refl
left_none (x ∷ xs) zero h = absurd cc
left_none (x ∷ xs) (suc i) h = left_none xs i h

left_end : {A : Type 0} (xs : List A) (i : ℕ) → length xs ≤ i → drop i xs ≡ []
left_end [] zero h = refl
left_end [] (suc i) h = refl
left_end (x ∷ xs) zero h = absurd (omega arith)
left_end (x ∷ xs) (suc i) h = left_end xs i (omega arith)

-- the item at an index passes
pub any_here : {A : Type 0} (p : A → Bool) (xs : List A) (i : ℕ) (x : A) (whole : Bool) → slice_get xs i ≡ Some x → p x ≡ true → list_any p (drop i xs) ≡ whole → true ≡ whole
any_here p xs i x whole h is kept = sym (ap (list_any p) (left_at xs i x h) ∙ ap (λ b. b || list_any p (drop (i + 1) xs)) is) ∙ kept

-- it doesn't
pub any_further : {A : Type 0} (p : A → Bool) (xs : List A) (i : ℕ) (x : A) (whole : Bool) → slice_get xs i ≡ Some x → p x ≡ false → list_any p (drop i xs) ≡ whole → list_any p (drop (i + 1) xs) ≡ whole
any_further p xs i x whole h is kept = sym (ap (list_any p) (left_at xs i x h) ∙ ap (λ b. b || list_any p (drop (i + 1) xs)) is) ∙ kept

-- no item stands at an index
pub any_none : {A : Type 0} (p : A → Bool) (xs : List A) (i : ℕ) (whole : Bool) → slice_get xs i ≡ None → list_any p (drop i xs) ≡ whole → false ≡ whole
any_none p xs i whole h kept = sym (ap (list_any p) (left_none xs i h)) ∙ kept

-- the list is done
pub any_end : {A : Type 0} (p : A → Bool) (xs : List A) (i : ℕ) (whole : Bool) → length xs ≤ i → list_any p (drop i xs) ≡ whole → false ≡ whole
any_end p xs i whole h kept = sym (ap (list_any p) (left_end xs i h)) ∙ kept

find_step : {A : Type 0} (p : A → Bool) (xs : List A) (i : ℕ) (x : A) (b : Bool) → slice_get xs i ≡ Some x → p x ≡ b → find p (drop i xs) ≡ (if b then Some x else find p (drop (i + 1) xs))
find_step p xs i x b h is = ap (find p) (left_at xs i x h) ∙ ap (λ c. if c then Some x else find p (drop (i + 1) xs)) is

-- the item at an index is the first that passes
pub found_here : {A : Type 0} (p : A → Bool) (xs : List A) (i : ℕ) (x : A) (whole : Option A) → slice_get xs i ≡ Some x → p x ≡ true → find p (drop i xs) ≡ whole → Some x ≡ whole
found_here p xs i x whole h is kept = sym (find_step p xs i x true h is) ∙ kept

-- it isn't
pub found_further : {A : Type 0} (p : A → Bool) (xs : List A) (i : ℕ) (x : A) (whole : Option A) → slice_get xs i ≡ Some x → p x ≡ false → find p (drop i xs) ≡ whole → find p (drop (i + 1) xs) ≡ whole
found_further p xs i x whole h is kept = sym (find_step p xs i x false h is) ∙ kept

-- no item stands at an index
pub found_none : {A : Type 0} (p : A → Bool) (xs : List A) (i : ℕ) (whole : Option A) → slice_get xs i ≡ None → find p (drop i xs) ≡ whole → None ≡ whole
found_none p xs i whole h kept = sym (ap (find p) (left_none xs i h)) ∙ kept

-- the list is done
pub found_end : {A : Type 0} (p : A → Bool) (xs : List A) (i : ℕ) (whole : Option A) → length xs ≤ i → find p (drop i xs) ≡ whole → None ≡ whole
found_end p xs i whole h kept = sym (ap (find p) (left_end xs i h)) ∙ kept
