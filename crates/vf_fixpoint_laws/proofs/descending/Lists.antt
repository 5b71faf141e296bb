-- Names and what stands beside them, in lists that are cut off and that go on.
use Rattle.std.proofs.Common.{◌≡◌, refl, sym, ap, subst, ◌∙◌, ℕ, zero, suc, ◌+◌, Bool, true, false, cond, List, [], ◌∷◌, length, take, slice_get, Option, Some, None, arith}
use Rattle.std.specs.Prelude.{◌<◌}
use Rattle.std.specs.List.{position_from}
use Rattle.std.specs.Str.{bytes_eq}
use Rattle.std.proofs.lemmas.Slice.Eq.{bytes_eq-Decides}
use Rattle.vf_names.specs.Names.{number_of}

-- what is found among the first of some items is found among all, below their count
found_taken : {A : Type 0} (t : A → Bool) (i k : ℕ) (xs : List A) (j : ℕ) → position_from t i (take k xs) ≡ Some j → (position_from t i xs ≡ Some j) × (j < i + k)
found_taken t i zero [] j e = absurd cc
found_taken t i zero (x ∷ xs) j e = absurd cc
found_taken t i (suc k) [] j e = absurd cc
found_taken t i (suc k) (x ∷ xs) j e = by (t x) e (found_taken t (i + 1) k xs j)
  where
    some : ◌≡◌ {A = Option ℕ} (Some i) (Some j) → i ≡ j
    some e = cc

    by : (b : Bool) → cond b (Some i) (position_from t (i + 1) (take k xs)) ≡ Some j
        → (position_from t (i + 1) (take k xs) ≡ Some j → (position_from t (i + 1) xs ≡ Some j) × (j < i + 1 + k))
        → (cond b (Some i) (position_from t (i + 1) xs) ≡ Some j) × (j < i + suc k)
    by true e h = (e, let q = some e in omega (arith, q))
    by false e h = let r = h e in (r.0, let q = r.1 in omega (arith, q))

pub number_taken : (k : ℕ) (xs : List (List ℕ)) (x : List ℕ) (j : ℕ) → number_of (take k xs) x ≡ Some j → (number_of xs x ≡ Some j) × (j < k)
number_taken k xs x j e = let r = found_taken (bytes_eq x) 0 k xs j e in (r.0, let q = r.1 in omega (arith, q))

-- what stands at a place among the first of some items stands there among all
pub get_taken : {A : Type 0} (k : ℕ) (xs : List A) (j : ℕ) (x : A) → slice_get (take k xs) j ≡ Some x → slice_get xs j ≡ Some x
get_taken zero [] j x e = absurd cc
get_taken zero (y ∷ xs) j x e = absurd cc
get_taken (suc k) [] j x e = absurd cc
get_taken (suc k) (y ∷ xs) zero x e = e
get_taken (suc k) (y ∷ xs) (suc j) x e = get_taken k xs j x e

-- the name at the number that is found is the one that was looked for
found_name : (x : List ℕ) (i : ℕ) (xs : List (List ℕ)) (j : ℕ) → position_from (bytes_eq x) i xs ≡ Some j → (k : ℕ) × (j ≡ i + k) × (slice_get xs k ≡ Some x)
found_name x i [] j e = absurd cc
found_name x i (y ∷ ys) j e = by (bytes_eq x y) refl e (found_name x (i + 1) ys j)
  where
    some : ◌≡◌ {A = Option ℕ} (Some i) (Some j) → i ≡ j
    some e = cc

    by : (b : Bool) → bytes_eq x y ≡ b → cond b (Some i) (position_from (bytes_eq x) (i + 1) ys) ≡ Some j
        → (position_from (bytes_eq x) (i + 1) ys ≡ Some j → (k : ℕ) × (j ≡ i + 1 + k) × (slice_get ys k ≡ Some x))
        → (k : ℕ) × (j ≡ i + k) × (slice_get (y ∷ ys) k ≡ Some x)
    by true p e h = (zero, let q = some e in omega (arith, q), ap Some (sym ((bytes_eq-Decides x y).0 p)))
    by false p e h = let r = h e in (suc r.0, let q = r.1 in omega (arith, q), r.2)

pub name_there : (xs : List (List ℕ)) (x : List ℕ) (j : ℕ) → number_of xs x ≡ Some j → slice_get xs j ≡ Some x
name_there xs x j e = let r = found_name x 0 xs j e in subst (λ (k : ℕ). slice_get xs k ≡ Some x) (let q = r.1 in omega (arith, q)) r.2

pub some_same : {A : Type 0} {a b : A} → ◌≡◌ {A = Option A} (Some a) (Some b) → a ≡ b
some_same e = cc

pub none_some : {A : Type 0} {a : A} → ◌≡◌ {A = Option A} None (Some a) → ⊥
none_some e = cc

-- names with one number are one
pub one_name : (xs : List (List ℕ)) (x y : List ℕ) (j : ℕ) → number_of xs x ≡ Some j → number_of xs y ≡ Some j → x ≡ y
one_name xs x y j e f = some_same (sym (name_there xs x j e) ∙ name_there xs y j f)

-- a number is below how many names there are
position_below : (t : List ℕ → Bool) (i : ℕ) (xs : List (List ℕ)) (n : ℕ) → position_from t i xs ≡ Some n → n < i + length xs
position_below t i [] n e = absurd cc
position_below t i (x ∷ xs) n e = by (t x) e (position_below t (i + 1) xs n)
  where
    some : ◌≡◌ {A = Option ℕ} (Some i) (Some n) → i ≡ n
    some e = cc

    by : (b : Bool) → cond b (Some i) (position_from t (i + 1) xs) ≡ Some n → (position_from t (i + 1) xs ≡ Some n → n < i + 1 + length xs) → n < i + suc (length xs)
    by true e h = let k = some e in omega (arith, k)
    by false e h = let k = h e in omega (arith, k)

pub number_below : (xs : List (List ℕ)) (x : List ℕ) (n : ℕ) → number_of xs x ≡ Some n → n < length xs
number_below xs x n e = let h = position_below (bytes_eq x) 0 xs n e in omega (arith, h)
