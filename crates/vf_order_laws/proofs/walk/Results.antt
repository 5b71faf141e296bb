-- Results one after the other.
use Rattle.std.proofs.Common.{◌≡◌, refl, ◌∙◌, ap, ℕ, nat_eq, Bool, true, false, IsTrue, Option, Some, None, Result, Ok, Err, arith}
use Rattle.vf_base.specs.declared.refusal.Refusal.{Refusal}
use Rattle.vf_order_laws.specs.walk.Following.{after, choose, unless_refused}

pub goes : {A B : Type 0} (f : A → Result B Refusal) {r : Result A Refusal} {a : A} {w : Result B Refusal} → r ≡ Ok a → f a ≡ w → after f r ≡ w
unfolding after
goes f e h = ap (after f) e ∙ h

pub stops : {A B : Type 0} (f : A → Result B Refusal) {r : Result A Refusal} {x : Refusal} → r ≡ Err x → after f r ≡ Err x
unfolding after
stops f e = ap (after f) e

pub where_so : {A : Type 0} {b : Bool} {x w : A} (y : A) → b ≡ true → x ≡ w → choose b x y ≡ w
unfolding choose
where_so {x = x} y e h = ap (λ c. choose c x y) e ∙ h

pub where_not : {A : Type 0} {b : Bool} {y w : A} (x : A) → b ≡ false → y ≡ w → choose b x y ≡ w
unfolding choose
where_not {y = y} x e h = ap (λ c. choose c x y) e ∙ h

-- the same in both cases
pub either_way : {A : Type 0} {x y w : A} (b : Bool) → x ≡ w → y ≡ w → choose b x y ≡ w
unfolding choose
either_way true h k = h
either_way false h k = k

-- a test that something tells
pub told_false : (b : Bool) {P : Type 0} → (IsTrue b → P) × (P → IsTrue b) → (P → ⊥) → b ≡ false
told_false true t n = absurd (n (t.0 refl))
told_false false t n = refl

-- what a test that fails does not tell
pub untold : (b : Bool) {P : Type 0} → (IsTrue b → P) × (P → IsTrue b) → b ≡ false → P → ⊥
untold true t e h = absurd cc
untold false t e h = let so = t.1 h in absurd cc

pub unrefused : {A : Type 0} {a : A} {o : Option Refusal} → o ≡ None → unless_refused a o ≡ Ok a
unfolding unless_refused
unrefused {a = a} e = ap (unless_refused a) e

pub refused_so : {A : Type 0} (a : A) {o : Option Refusal} {x : Refusal} → o ≡ Some x → unless_refused a o ≡ Err x
unfolding unless_refused
refused_so a e = ap (unless_refused a) e

-- counts
pub same_count : (m n : ℕ) → m ≡ n → nat_eq m n ≡ true
same_count m n e = grind (arith, e)

pub other_count : (m n : ℕ) → (m ≡ n → ⊥) → nat_eq m n ≡ false
other_count m n e = grind (arith, e)
