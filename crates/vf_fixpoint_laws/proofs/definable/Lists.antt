-- Lists that go on behind others.
use Rattle.std.proofs.Common.{◌≡◌, refl, ap, ℕ, zero, suc, ◌+◌, ◌≤◌, Bool, true, false, ◌||◌, cond, List, [], ◌∷◌, ◌++◌, length, take, Option, Some, slice_get, arith}
use Rattle.std.specs.List.{position_from}
use Rattle.std.specs.Str.{bytes_eq}
use Rattle.vf_names.specs.Names.{number_of}

-- one more in each of two lists that stand beside each other
pub one_beside : {A B : Type 0} (xs : List A) (x : A) (ys : List B) (y : B) → length xs ≡ length ys → length (xs ++ x ∷ []) ≡ length (ys ++ y ∷ [])
one_beside [] x [] y e = refl
one_beside [] x (z ∷ ys) y e = absurd (grind (arith, e))
one_beside (z ∷ xs) x [] y e = absurd (grind (arith, e))
one_beside (z ∷ xs) x (u ∷ ys) y e = ap suc (one_beside xs x ys y (grind (arith, e)))

-- what is found in front is found where the list goes on
pub get_front : {A : Type 0} (xs ys : List A) (n : ℕ) (x : A) → slice_get xs n ≡ Some x → slice_get (xs ++ ys) n ≡ Some x
get_front [] ys n x e = absurd cc
get_front (z ∷ xs) ys zero x e = e
get_front (z ∷ xs) ys (suc n) x e = get_front xs ys n x e

pub get_below : {A : Type 0} (xs ys : List A) (n : ℕ) → suc n ≤ length xs → slice_get (xs ++ ys) n ≡ slice_get xs n
get_below [] ys n h = absurd (omega (arith, h))
get_below (z ∷ xs) ys zero h = refl
get_below (z ∷ xs) ys (suc n) h = get_below xs ys n (omega (arith, h))

found_more : (t : List ℕ → Bool) (i : ℕ) (xs ys : List (List ℕ)) (n : ℕ) → position_from t i xs ≡ Some n → position_from t i (xs ++ ys) ≡ Some n
found_more t i [] ys n e = absurd cc
found_more t i (x ∷ xs) ys n e = by_test (t x) e (found_more t (i + 1) xs ys n)
  where
    by_test : (b : Bool) → cond b (Some i) (position_from t (i + 1) xs) ≡ Some n → (position_from t (i + 1) xs ≡ Some n → position_from t (i + 1) (xs ++ ys) ≡ Some n) → cond b (Some i) (position_from t (i + 1) (xs ++ ys)) ≡ Some n
    by_test true e h = e
    by_test false e h = h e

position_past : (t : List ℕ → Bool) (i : ℕ) (xs : List (List ℕ)) (n : ℕ) → position_from t i xs ≡ Some n → i ≤ n
position_past t i [] n e = absurd cc
position_past t i (x ∷ xs) n e = by_test (t x) e (position_past t (i + 1) xs n)
  where
    some : ◌≡◌ {A = Option ℕ} (Some i) (Some n) → i ≡ n
    some e = cc

    by_test : (b : Bool) → cond b (Some i) (position_from t (i + 1) xs) ≡ Some n → (position_from t (i + 1) xs ≡ Some n → i + 1 ≤ n) → i ≤ n
    by_test true e h = let k = some e in omega (arith, k)
    by_test false e h = let k = h e in omega (arith, k)

-- a name keeps its number where more names come behind
pub number_front : (xs ys : List (List ℕ)) (x : List ℕ) (n : ℕ) → number_of xs x ≡ Some n → number_of (xs ++ ys) x ≡ Some n
number_front xs ys x n e = found_more (bytes_eq x) 0 xs ys n e

position_below : (t : List ℕ → Bool) (i : ℕ) (xs : List (List ℕ)) (n : ℕ) → position_from t i xs ≡ Some n → suc n ≤ i + length xs
position_below t i [] n e = absurd cc
position_below t i (x ∷ xs) n e = by_test (t x) e (position_below t (i + 1) xs n)
  where
    some : ◌≡◌ {A = Option ℕ} (Some i) (Some n) → i ≡ n
    some e = cc

    by_test : (b : Bool) → cond b (Some i) (position_from t (i + 1) xs) ≡ Some n → (position_from t (i + 1) xs ≡ Some n → suc n ≤ i + 1 + length xs) → suc n ≤ i + suc (length xs)
    by_test true e h = let k = some e in omega (arith, k)
    by_test false e h = let k = h e in omega (arith, k)

-- a number is below how many names there are
pub number_below : (xs : List (List ℕ)) (x : List ℕ) (n : ℕ) → number_of xs x ≡ Some n → suc n ≤ length xs
number_below xs x n e = let h = position_below (bytes_eq x) 0 xs n e in omega (arith, h)

-- as many items as stand in front are the front
pub take_front : {A : Type 0} (xs ys : List A) → take (length xs) (xs ++ ys) ≡ xs
take_front [] ys = refl
take_front (x ∷ xs) ys = ap (λ zs. x ∷ zs) (take_front xs ys)

pub or_behind : (a b : Bool) → (b ≡ true → a ≡ true) → (a || b) ≡ a
or_behind true b h = refl
or_behind false true h = absurd (let e : false ≡ true = h refl in cc)
or_behind false false h = refl
