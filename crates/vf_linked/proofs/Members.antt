-- Members of lists.
use Rattle.std.specs.Prelude.{Contains}
use Rattle.std.proofs.Common.{◌≡◌, ◌⊎◌, zero, suc, List, [], ◌∷◌, ◌++◌, refl, subst, inl, inr, arith}

pub empty : {A B : Type 0} {x : A} → Contains [] x → B
empty (k, low, is) = absurd (omega (arith, low))

pub either_in : {A : Type 0} (x z : A) (xs : List A) → Contains (x ∷ xs) z → (x ≡ z) ⊎ Contains xs z
either_in x z xs (zero, low, is) = inl is
either_in x z xs (suc k, low, is) = inr (k, omega (arith, low), is)

pub first_in : {A : Type 0} (x : A) (xs : List A) → Contains (x ∷ xs) x
first_in x xs = (0, omega arith, refl)

pub later_in : {A : Type 0} (x z : A) (xs : List A) → Contains xs z → Contains (x ∷ xs) z
later_in x z xs (k, low, is) = (suc k, omega (arith, low), is)

pub apart_in : {A : Type 0} (z : A) (xs ys : List A) → Contains (xs ++ ys) z → Contains xs z ⊎ Contains ys z
apart_in z [] ys h = inr h
apart_in z (x ∷ xs) ys h = elim (either_in x z (xs ++ ys) h) [
  | inl same ↦ inl (subst (Contains (x ∷ xs)) same (first_in x xs))
  | inr rest ↦ elim (apart_in z xs ys rest) [ inl l ↦ inl (later_in x z xs l) | inr r ↦ inr r ]
]

pub left_in : {A : Type 0} (z : A) (xs ys : List A) → Contains xs z → Contains (xs ++ ys) z
left_in z [] ys h = empty h
left_in z (x ∷ xs) ys h = elim (either_in x z xs h) [ inl same ↦ subst (Contains (x ∷ (xs ++ ys))) same (first_in x (xs ++ ys)) | inr rest ↦ later_in x z (xs ++ ys) (left_in z xs ys rest) ]

pub right_in : {A : Type 0} (z : A) (xs ys : List A) → Contains ys z → Contains (xs ++ ys) z
right_in z [] ys h = h
right_in z (x ∷ xs) ys h = later_in x z (xs ++ ys) (right_in z xs ys h)
