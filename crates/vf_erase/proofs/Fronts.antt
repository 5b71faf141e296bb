-- The front of a list up to an item.
use Rattle.std.proofs.Common.{◌≡◌, ℕ, zero, suc, ◌+◌, List, [], ◌∷◌, ◌++◌, take, drop, Some, slice_get, refl, sym, ap, ◌∙◌, arith}

-- the front with one item more
pub front_more : {A : Type 0} (xs : List A) (i : ℕ) (x : A) → slice_get xs i ≡ Some x → take (i + 1) xs ≡ take i xs ++ x ∷ []
front_more [] i x h = absurd cc
front_more (y ∷ xs) zero x h = let e : y ≡ x = cc in rw e refl
front_more (y ∷ xs) (suc i) x h = let step : suc i + 1 ≡ suc (i + 1) = omega arith in rw step (ap (λ ys. y ∷ ys) (front_more xs i x h))

-- the first item of what is left is the item at the index
first_left : {A : Type 0} (xs : List A) (i : ℕ) → slice_get (drop i xs) 0 ≡ slice_get xs i
first_left [] zero = refl
first_left [] (suc i) = refl
first_left (x ∷ xs) zero = refl
first_left (x ∷ xs) (suc i) = first_left xs i

-- what is left behind the next item
next_left : {A : Type 0} (xs : List A) (i : ℕ) → drop (i + 1) xs ≡ drop 1 (drop i xs)
next_left [] zero = refl
next_left [] (suc i) = let step : suc i + 1 ≡ suc (i + 1) = omega arith in rw step refl
next_left (x ∷ xs) zero = refl
next_left (x ∷ xs) (suc i) = let step : suc i + 1 ≡ suc (i + 1) = omega arith in rw step (next_left xs i)

-- lists of which the same is left have the same item at the index
pub same_item : {A : Type 0} (xs ys : List A) (i : ℕ) → drop i xs ≡ drop i ys → slice_get xs i ≡ slice_get ys i
same_item xs ys i h = sym (first_left xs i) ∙ ap (λ zs. slice_get zs 0) h ∙ first_left ys i

-- and the same is left behind it
pub same_rest : {A : Type 0} (xs ys : List A) (i : ℕ) → drop i xs ≡ drop i ys → drop (i + 1) xs ≡ drop (i + 1) ys
same_rest xs ys i h = next_left xs i ∙ ap (drop 1) h ∙ sym (next_left ys i)
