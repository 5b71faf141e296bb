-- Lists that a loop goes over: what is left of them; and lists in which an item is changed.
use Rattle.std.proofs.Common.{◌≡◌, ℕ, zero, suc, ◌+◌, ◌≤◌, List, [], ◌∷◌, length, take, drop, ◌++◌, Some, None, slice_get, slice_set, refl, sym, ap, ◌∙◌, arith}
use Rattle.vf_declared.specs.Writing.{changed, changed_at}

-- what is left at an item begins with it
pub left_at : {A : Type 0} (xs : List A) (i : ℕ) (x : A) → slice_get xs i ≡ Some x → drop i xs ≡ x ∷ drop (i + 1) xs
left_at [] i x h = absurd cc
left_at (y ∷ xs) zero x h = let e : y ≡ x = cc in rw e refl
left_at (y ∷ xs) (suc i) x h = let step : suc i + 1 ≡ suc (i + 1) = omega arith in rw step (left_at xs i x h)

-- nothing is left where no item stands
pub left_none : {A : Type 0} (xs : List A) (i : ℕ) → slice_get xs i ≡ None → drop i xs ≡ []
left_none [] zero h = refl
left_none [] (suc i) h = refl
left_none (x ∷ xs) zero h = absurd cc
left_none (x ∷ xs) (suc i) h = left_none xs i h

-- nothing is left behind the end
pub left_end : {A : Type 0} (xs : List A) (i : ℕ) → length xs ≤ i → drop i xs ≡ []
left_end [] zero h = refl
left_end [] (suc i) h = refl
left_end (x ∷ xs) zero h = absurd (omega arith)
left_end (x ∷ xs) (suc i) h = left_end xs i (omega arith)

-- of two items that are written at one index the second stays
set_again : {A : Type 0} (xs : List A) (n : ℕ) (x y : A) → slice_set (slice_set xs n x) n y ≡ slice_set xs n y
set_again [] n x y = refl
set_again (z ∷ xs) zero x y = refl
set_again (z ∷ xs) (suc n) x y = ap (λ ys. z ∷ ys) (set_again xs n x y)

-- an item that is taken out, changed and put back
pub put_back : {A : Type 0} (change : A → A) (xs ys zs : List A) (n : ℕ) (x between y : A) → slice_get xs n ≡ Some x → ys ≡ slice_set xs n between → y ≡ change x → zs ≡ slice_set ys n y → zs ≡ changed change xs n
put_back change xs ys zs n x between y there out is back = back ∙ ap (λ l. slice_set l n y) out ∙ set_again xs n between y ∙ ap (slice_set xs n) is ∙ sym (ap (changed_at change xs n) there)

-- the items up to one, and this one
pub taken_more : {A : Type 0} (xs : List A) (i : ℕ) (x : A) → slice_get xs i ≡ Some x → take (i + 1) xs ≡ take i xs ++ x ∷ []
taken_more [] i x h = absurd cc
taken_more (y ∷ xs) zero x h = let e : y ≡ x = cc in rw e refl
taken_more (y ∷ xs) (suc i) x h = let step : suc i + 1 ≡ suc (i + 1) = omega arith in rw step (ap (λ ys. y ∷ ys) (taken_more xs i x h))

-- all items stand before an index at which none does
pub taken_all : {A : Type 0} (xs : List A) (i : ℕ) → slice_get xs i ≡ None → take i xs ≡ xs
taken_all [] zero h = refl
taken_all [] (suc i) h = refl
taken_all (y ∷ xs) zero h = absurd cc
taken_all (y ∷ xs) (suc i) h = ap (λ ys. y ∷ ys) (taken_all xs i h)
