-- What stands where in lists.
use Rattle.std.proofs.Common.{◌≡◌, ◌<◌, ◌+◌, ◌⊎◌, inl, inr, ℕ, zero, suc, List, [], ◌∷◌, ◌++◌, length, map, Some, refl, sym, ap, ◌∙◌, arith}
use Rattle.std.specs.Prelude.{Option, slice_get, slice_index}
use Rattle.vf_question.proofs.Has.{Has}

pub one_some : {A : Type 0} {o : Option A} {x y : A} → o ≡ Some x → o ≡ Some y → x ≡ y
one_some {A} {o} {x} {y} h k = let e : Some x ≡ Some y = sym h ∙ k in cc

-- before a number, at it, or behind it
pub where_is : (i n : ℕ) → (i < n) ⊎ (i ≡ n) ⊎ ((k : ℕ) × (i ≡ n + 1 + k))
where_is zero zero = inr (inl refl)
where_is zero (suc n) = inl (omega arith)
where_is (suc i) zero = inr (inr (i, omega arith))
where_is (suc i) (suc n) = elim (where_is i n) [
  | inl l ↦ inl (omega arith)
  | inr r ↦ elim r [ inl e ↦ inr (inl (ap suc e)) | inr k ↦ inr (inr (k.0, let e = k.1 in omega arith)) ]
]

pub get_left : {A : Type 0} (xs ys : List A) (i : ℕ) → i < length xs → slice_get (xs ++ ys) i ≡ slice_get xs i
get_left [] ys i l = absurd (omega arith)
get_left (x ∷ xs) ys zero l = refl
get_left (x ∷ xs) ys (suc i) l = get_left xs ys i (omega arith)

pub get_right : {A : Type 0} (xs ys : List A) (i j : ℕ) → j ≡ length xs + i → slice_get (xs ++ ys) j ≡ slice_get ys i
get_right [] ys i j e = ap (slice_get ys) (omega (arith, e))
get_right (x ∷ xs) ys i zero e = absurd (omega (arith, e))
get_right (x ∷ xs) ys i (suc j) e = get_right xs ys i j (omega (arith, e))

pub get_kept : {A : Type 0} (xs ys : List A) (i : ℕ) (x : A) → slice_get xs i ≡ Some x → slice_get (xs ++ ys) i ≡ Some x
get_kept [] ys i x h = cc
get_kept (y ∷ xs) ys zero x h = h
get_kept (y ∷ xs) ys (suc i) x h = get_kept xs ys i x h

pub get_within : {A : Type 0} (xs : List A) (i : ℕ) → i < length xs → (x : A) × (slice_get xs i ≡ Some x)
get_within [] i l = absurd (omega arith)
get_within (x ∷ xs) zero l = (x, refl)
get_within (x ∷ xs) (suc i) l = get_within xs i (omega arith)

pub get_number : (xs : List ℕ) (i : ℕ) → i < length xs → slice_get xs i ≡ Some (slice_index xs i)
get_number [] i l = absurd (omega arith)
get_number (x ∷ xs) zero l = refl
get_number (x ∷ xs) (suc i) l = get_number xs i (omega arith)

pub number_left : (xs ys : List ℕ) (i : ℕ) → i < length xs → slice_index (xs ++ ys) i ≡ slice_index xs i
number_left [] ys i l = absurd (omega arith)
number_left (x ∷ xs) ys zero l = refl
number_left (x ∷ xs) ys (suc i) l = number_left xs ys i (omega arith)

pub number_last : (xs : List ℕ) (x : ℕ) → slice_index (xs ++ x ∷ []) (length xs) ≡ x
number_last [] x = refl
number_last (y ∷ xs) x = number_last xs x

pub number_behind : (base : ℕ) (xs : List ℕ) (i : ℕ) → i < length xs → slice_index (map (λ n. base + n) xs) i ≡ base + slice_index xs i
number_behind base [] i l = absurd (omega arith)
number_behind base (x ∷ xs) zero l = refl
number_behind base (x ∷ xs) (suc i) l = number_behind base xs i (omega arith)

pub has_here : {A : Type 0} (xs : List A) (i : ℕ) (x : A) → slice_get xs i ≡ Some x → Has xs x
has_here [] i x h = cc
has_here (y ∷ xs) zero x h = let e : y ≡ x = cc in inl e
has_here (y ∷ xs) (suc i) x h = inr (has_here xs i x h)

pub has_split : {A : Type 0} (xs ys : List A) (x : A) → Has (xs ++ ys) x → Has xs x ⊎ Has ys x
has_split [] ys x h = inr h
has_split (y ∷ xs) ys x (inl e) = inl (inl e)
has_split (y ∷ xs) ys x (inr h) = elim (has_split xs ys x h) [ inl k ↦ inl (inr k) | inr k ↦ inr k ]

pub has_left : {A : Type 0} (xs ys : List A) (x : A) → Has xs x → Has (xs ++ ys) x
has_left [] ys x h = absurd h
has_left (y ∷ xs) ys x (inl e) = inl e
has_left (y ∷ xs) ys x (inr h) = inr (has_left xs ys x h)

pub has_right : {A : Type 0} (xs ys : List A) (x : A) → Has ys x → Has (xs ++ ys) x
has_right [] ys x h = h
has_right (y ∷ xs) ys x h = inr (has_right xs ys x h)
