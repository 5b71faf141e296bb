-- Lists: what stands at an index of longer and of changed ones, and numbers of the things that pass a test.
use Rattle.std.proofs.Common.{◌≡◌, refl, ap, ◌∙◌, ℕ, zero, suc, ◌+◌, ◌-◌, ◌<◌, Bool, true, false, cond, List, [], ◌∷◌, ◌++◌, length, slice_get, slice_set, Option, Some, None, arith, length-append}
use Rattle.std.proofs.lemmas.Bool.{eq-eqb, ne_eqb}
use Rattle.vf_env.specs.Trees.{numbers_where}
use Rattle.vf_env.specs.Noted.{ending_with, is_last, is_number}

pub get_last : {A : Type 0} (xs : List A) (y : A) → slice_get (xs ++ y ∷ []) (length xs) ≡ Some y
get_last [] y = refl
get_last (x ∷ xs) y = get_last xs y

pub set_here : {A : Type 0} (xs : List A) (k : ℕ) (y : A) → k < length xs → slice_get (slice_set xs k y) k ≡ Some y
set_here [] k y l = absurd (omega (arith, l))
set_here (x ∷ xs) zero y l = refl
set_here (x ∷ xs) (suc k) y l = set_here xs k y (omega (arith, l))

pub set_there : {A : Type 0} (xs : List A) (k j : ℕ) (y : A) → (j ≡ k → ⊥) → slice_get (slice_set xs k y) j ≡ slice_get xs j
set_there [] k j y n = refl
set_there (x ∷ xs) zero zero y n = absurd (n refl)
set_there (x ∷ xs) zero (suc j) y n = refl
set_there (x ∷ xs) (suc k) zero y n = refl
set_there (x ∷ xs) (suc k) (suc j) y n = set_there xs k j y (λ e. n (ap suc e))

pub set_long : {A : Type 0} (xs : List A) (k : ℕ) (y : A) → length (slice_set xs k y) ≡ length xs
set_long [] k y = refl
set_long (x ∷ xs) zero y = refl
set_long (x ∷ xs) (suc k) y = ap suc (set_long xs k y)

pub set_again : {A : Type 0} (xs : List A) (n : ℕ) (x y : A) → slice_set (slice_set xs n x) n y ≡ slice_set xs n y
set_again [] n x y = refl
set_again (z ∷ xs) zero x y = refl
set_again (z ∷ xs) (suc n) x y = ap (λ ys. z ∷ ys) (set_again xs n x y)

-- ---- the end of a list
last_place : (ns : List ℕ) (n : ℕ) → length (ns ++ n ∷ []) - 1 ≡ length ns
last_place ns n = let e = length-append ns (n ∷ []) in omega (arith, e)

-- a number that was put to the end stands there
pub last_there : (ns : List ℕ) (n : ℕ) → is_last (ns ++ n ∷ []) n ≡ true
last_there ns n = ap (λ k. is_number n (slice_get (ns ++ n ∷ []) k)) (last_place ns n) ∙ ap (is_number n) (get_last ns n) ∙ eq-eqb n n refl

ended_if : (ns : List ℕ) (n : ℕ) (b : Bool) → is_last ns n ≡ b → is_last (cond b ns (ns ++ n ∷ [])) n ≡ true
ended_if ns n true e = e
ended_if ns n false e = last_there ns n

-- a list that ends with a number is not changed where the number is put to its end
pub ending_again : (ns : List ℕ) (n : ℕ) → ending_with (ending_with ns n) n ≡ ending_with ns n
ending_again ns n = ap (λ b. cond b (ending_with ns n) (ending_with ns n ++ n ∷ [])) (ended_if ns n (is_last ns n) refl)

-- ---- numbers of what passes a test
passing : (b : Bool) (n : ℕ) (xs ys zs : List ℕ) → ys ≡ xs ++ zs → cond b (n ∷ ys) ys ≡ cond b (n ∷ xs) xs ++ zs
passing true n xs ys zs h = ap (λ l. n ∷ l) h
passing false n xs ys zs h = h

-- one more thing at the end
pub numbers_more : {A : Type 0} (test : A → Bool) (n : ℕ) (xs : List A) (y : A) → numbers_where test n (xs ++ y ∷ []) ≡ numbers_where test n xs ++ cond (test y) ((n + length xs) ∷ []) []
numbers_more test n [] y = ap (λ k. cond (test y) (k ∷ []) []) (let e : n ≡ n + 0 = omega arith in e)
numbers_more test n (x ∷ xs) y =
    let sum : suc n + length xs ≡ n + length (x ∷ xs) = omega arith in
    passing (test x) n (numbers_where test (suc n) xs) (numbers_where test (suc n) (xs ++ y ∷ [])) (cond (test y) ((n + length (x ∷ xs)) ∷ []) [])
    (numbers_more test (suc n) xs y ∙ ap (λ k. numbers_where test (suc n) xs ++ cond (test y) (k ∷ []) []) sum)

below_if : (b : Bool) (n k : ℕ) (ms : List ℕ) (j m : ℕ) → n < k → ((j m : ℕ) → slice_get ms j ≡ Some m → m < k) → slice_get (cond b (n ∷ ms) ms) j ≡ Some m → m < k
below_if true n k ms zero m l h e = let s : n ≡ m = cc in omega (arith, s, l)
below_if true n k ms (suc j) m l h e = h j m e
below_if false n k ms j m l h e = h j m e

-- each number is below that of the end
pub numbers_below : {A : Type 0} (test : A → Bool) (n : ℕ) (xs : List A) (j m : ℕ) → slice_get (numbers_where test n xs) j ≡ Some m → m < n + length xs
numbers_below test n [] j m e = absurd cc
numbers_below test n (x ∷ xs) j m e = below_if (test x) n (n + length (x ∷ xs)) (numbers_where test (suc n) xs) j m (omega arith) (λ j m h. let l = numbers_below test (suc n) xs j m h in omega (arith, l)) e

none_is : (n : ℕ) (o : Option ℕ) → ((m : ℕ) → o ≡ Some m → m < n) → is_number n o ≡ false
none_is n None h = refl
none_is n (Some m) h = let l = h m refl in ne_eqb m n (λ e. omega (arith, l, e))

-- so the number of the end is not among them
pub not_last : {A : Type 0} (test : A → Bool) (xs : List A) → is_last (numbers_where test 0 xs) (length xs) ≡ false
not_last test xs = none_is (length xs) (slice_get (numbers_where test 0 xs) (length (numbers_where test 0 xs) - 1)) (λ m e. let l = numbers_below test 0 xs (length (numbers_where test 0 xs) - 1) m e in omega (arith, l))
