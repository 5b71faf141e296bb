-- Where terms stand in lists.
use Rattle.std.proofs.Common.{◌≡◌, ◌≤◌, ◌<◌, ◌+◌, ℕ, Bool, true, false, cond, List, [], ◌∷◌, ◌++◌, length, map, drop, get_or, nat_lt, refl, sym, ap, ◌∙◌, subst, arith}
use Rattle.std.proofs.lemmas.List.{at_drop_more}
use Rattle.std.proofs.lemmas.Bool.{false≢true, lt-ltb}
use Rattle.std.specs.declared.cmp.Ordering.{Ordering}
use Rattle.std.specs.declared.cmp.Ordering.TheVariants as order
use Rattle.std.specs.Ordering.{is_eq}
use Rattle.vf_closure.specs.Terms.{Term}
use Rattle.vf_normal.specs.Order.{compare}
use Rattle.vf_normal.proofs.Order.{own, told}
use Rattle.vf_question.specs.Numbered.{place, with_one}

eq_told : (o : Ordering) → is_eq o ≡ true → o ≡ order.Equal
eq_told order.Less h = cc
eq_told order.Equal h = refl
eq_told order.Greater h = cc

-- the order takes a term for itself, and no other for it
pub one_own : (t : Term) → is_eq (compare t t) ≡ true
one_own t = ap is_eq (own t)

pub one_told : (u t : Term) → is_eq (compare u t) ≡ true → u ≡ t
one_told u t h = told u t (eq_told (compare u t) h)

pub one_is : (u t : Term) → u ≡ t → is_eq (compare u t) ≡ true
one_is u t e = subst (λ (x : Term). is_eq (compare u x) ≡ true) e (one_own u)

not_one : (b : Bool) → (b ≡ true → ⊥) → b ≡ false
not_one true h = absurd (h refl)
not_one false h = refl

-- a term that is found, or passed, on the way through a list
pub place_found : {A : Type 0} (f : A → Term) (xs : List A) (i : ℕ) (x : A) (t : Term) → i < length xs → x ≡ get_or xs i x → f x ≡ t → place t (map f (drop i xs)) ≡ 0
place_found f xs i x t l e h =
    at_drop_more (λ ys. place t (map f ys)) xs i x l
    ∙ ap (λ y. cond (is_eq (compare (f y) t)) 0 (place t (map f (drop (i + 1) xs)) + 1)) (sym e)
    ∙ ap (λ b. cond b 0 (place t (map f (drop (i + 1) xs)) + 1)) (one_is (f x) t h)

pub place_passed : {A : Type 0} (f : A → Term) (xs : List A) (i : ℕ) (x : A) (t : Term) → i < length xs → x ≡ get_or xs i x → (f x ≡ t → ⊥) → place t (map f (drop i xs)) ≡ place t (map f (drop (i + 1) xs)) + 1
place_passed f xs i x t l e h =
    at_drop_more (λ ys. place t (map f ys)) xs i x l
    ∙ ap (λ y. cond (is_eq (compare (f y) t)) 0 (place t (map f (drop (i + 1) xs)) + 1)) (sym e)
    ∙ ap (λ b. cond b 0 (place t (map f (drop (i + 1) xs)) + 1)) (not_one (is_eq (compare (f x) t)) (λ k. h (one_told (f x) t k)))

place_step : (b : Bool) (n : ℕ) → cond b 0 (n + 1) ≤ n + 1
place_step true n = omega arith
place_step false n = omega arith

-- no place is past the end
pub place_within : (t : Term) (ts : List Term) → place t ts ≤ length ts
place_within t [] = omega arith
place_within t (u ∷ us) = omega (arith, place_step (is_eq (compare u t)) (place t us), place_within t us)

not_below : (b : Bool) (t : Term) (ts : List Term) → b ≡ true → cond b ts (ts ++ t ∷ []) ≡ ts
not_below true t ts h = refl
not_below false t ts h = absurd (false≢true h)

-- a list that has the term stays as it is, and one that has it not gets it
pub with_one_there : (t : Term) (ts : List Term) → place t ts < length ts → ts ≡ with_one t ts
with_one_there t ts h = sym (not_below (nat_lt (place t ts) (length ts)) t ts (lt-ltb (place t ts) (length ts) h))
