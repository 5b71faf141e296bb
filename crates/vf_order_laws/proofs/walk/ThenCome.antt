-- Two parts of the text come to what the functions of both come to.
use Rattle.std.proofs.Common.{◌≡◌, Result, Ok, Err}
use Rattle.vf_base.specs.declared.refusal.Refusal.{Refusal}
use Rattle.vf_walk.specs.Walking.{Then}
use Rattle.vf_walk.specs.Walking as walking
use Rattle.vf_order_laws.specs.walk.Following.{after}
use Rattle.vf_order_laws.proofs.walk.Results.{goes, stops}

-- what the first part and the second come to is found, so what both do is
pub then_comes : {A B : Type 0} {P : Result A Refusal → Type 0} {Q : A → Result B Refusal → Type 0} {f : A → Result B Refusal} {r : Result A Refusal} {w : Result B Refusal} → ((v : Result A Refusal) → P v → r ≡ v) → ((a : A) (w : Result B Refusal) → Q a w → f a ≡ w) → Then P Q w → after f r ≡ w
then_comes {f = f} p q (walking.stops {x = x} h) = stops f (p (Err x) h)
then_comes {f = f} {w = w} p q (walking.goes {a = a} h k) = goes f (p (Ok a) h) (q a w k)

-- both parts come to what is found, if the first and the second do
pub then_found : {A B : Type 0} {P : Result A Refusal → Type 0} {Q : A → Result B Refusal → Type 0} (f : A → Result B Refusal) (r : Result A Refusal) → P r → ((a : A) → Q a (f a)) → Then P Q (after f r)
unfolding after
then_found f (Ok a) h go = walking.goes h (go a)
then_found f (Err x) h go = walking.stops h
