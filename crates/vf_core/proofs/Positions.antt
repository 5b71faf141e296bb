-- The first element of a list that passes a test, and what a list has after a push.
use Rattle.std.proofs.Common.{◌≡◌, ℕ, zero, suc, ◌+◌, ◌<◌, ◌≤◌, Bool, true, false, not, List, [], ◌∷◌, ◌++◌, length, map, Option, Some, None, slice_get, refl, sym, ap, ◌∙◌, arith}
use Rattle.std.specs.List.{position, position_from, position_or_len, find}
use Rattle.std.proofs.lemmas.Bool.{cond-true, cond-false}
use Rattle.std.proofs.lemmas.Iterator.Adapters.{position_from-zero}

-- counting from a number on, the place is the first that passes
from_found : {A B : Type 0} (g : A → B) (q : B → Bool) (xs : List A) (n i : ℕ) (x : A)
    → slice_get xs i ≡ Some x → q (g x) ≡ true → ((k : ℕ) (y : A) → k < i → slice_get xs k ≡ Some y → q (g y) ≡ false)
    → position_from q n (map g xs) ≡ Some (n + i)
from_found g q [] n i x at is before = cc
from_found g q (y ∷ xs) n zero x at is before =
    let e : y ≡ x = cc in
    let here : q (g y) ≡ true = ap (λ z. q (g z)) e ∙ is in
    cond-true _ (Some n) (position_from q (n + 1) (map g xs)) here ∙ ap Some (omega arith)
from_found g q (y ∷ xs) n (suc i) x at is before =
    let here : q (g y) ≡ false = before 0 y (omega arith) refl in
    cond-false _ (Some n) (position_from q (n + 1) (map g xs)) here
    ∙ from_found g q xs (n + 1) i x at is (λ k z less found. before (suc k) z (omega arith) found)
    ∙ ap Some (omega arith)

from_none : {A B : Type 0} (g : A → B) (q : B → Bool) (xs : List A) (n : ℕ)
    → ((k : ℕ) (y : A) → slice_get xs k ≡ Some y → q (g y) ≡ false)
    → position_from q n (map g xs) ≡ None
from_none g q [] n none = refl
from_none g q (y ∷ xs) n none =
    cond-false _ (Some n) (position_from q (n + 1) (map g xs)) (none 0 y refl)
    ∙ from_none g q xs (n + 1) (λ k z found. none (suc k) z found)

-- the first place at which a test passes
pub position_found : {A B : Type 0} (g : A → B) (q : B → Bool) (xs : List A) (i : ℕ) (x : A)
    → slice_get xs i ≡ Some x → q (g x) ≡ true → ((k : ℕ) (y : A) → k < i → slice_get xs k ≡ Some y → q (g y) ≡ false)
    → position q (map g xs) ≡ Some i
position_found g q xs i x at is before = position_from-zero q (map g xs) ∙ from_found g q xs 0 i x at is before ∙ ap Some (omega arith)

-- no place where no element passes
pub position_missing : {A B : Type 0} (g : A → B) (q : B → Bool) (xs : List A)
    → ((k : ℕ) (y : A) → slice_get xs k ≡ Some y → q (g y) ≡ false)
    → position q (map g xs) ≡ None
position_missing g q xs none = position_from-zero q (map g xs) ∙ from_none g q xs 0 none

-- an element after a push was there before, or is the new one
pub pushed_has : {A : Type 0} (P : ℕ → A → Type 0) (xs : List A) (x : A)
    → ((n : ℕ) (y : A) → slice_get xs n ≡ Some y → P n y) → P (length xs) x
    → (n : ℕ) (y : A) → slice_get (xs ++ x ∷ []) n ≡ Some y → P n y
pushed_has P [] x old new zero y at = let e : x ≡ y = cc in rw (← e) new
pushed_has P [] x old new (suc n) y at = cc
pushed_has P (z ∷ xs) x old new zero y at = old zero y at
pushed_has P (z ∷ xs) x old new (suc n) y at = pushed_has (λ k w. P (suc k) w) xs x (λ k w found. old (suc k) w found) new n y at

-- the first element that passes a test
pub find_found : {A B : Type 0} (g : A → B) (q : B → Bool) (xs : List A) (i : ℕ) (x : A)
    → slice_get xs i ≡ Some x → q (g x) ≡ true → ((k : ℕ) (y : A) → k < i → slice_get xs k ≡ Some y → q (g y) ≡ false)
    → find q (map g xs) ≡ Some (g x)
find_found g q [] i x at is before = cc
find_found g q (y ∷ xs) zero x at is before =
    let e : y ≡ x = cc in
    let here : q (g y) ≡ true = ap (λ z. q (g z)) e ∙ is in
    cond-true _ (Some (g y)) (find q (map g xs)) here ∙ ap (λ z. Some (g z)) e
find_found g q (y ∷ xs) (suc i) x at is before =
    let here : q (g y) ≡ false = before 0 y (omega arith) refl in
    cond-false _ (Some (g y)) (find q (map g xs)) here
    ∙ find_found g q xs i x at is (λ k z less found. before (suc k) z (omega arith) found)

-- no element where none passes
pub find_missing : {A B : Type 0} (g : A → B) (q : B → Bool) (xs : List A)
    → ((k : ℕ) (y : A) → slice_get xs k ≡ Some y → q (g y) ≡ false)
    → find q (map g xs) ≡ None
find_missing g q [] none = refl
find_missing g q (y ∷ xs) none =
    cond-false _ (Some (g y)) (find q (map g xs)) (none 0 y refl)
    ∙ find_missing g q xs (λ k z found. none (suc k) z found)
