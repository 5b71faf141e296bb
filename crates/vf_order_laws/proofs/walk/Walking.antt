-- How it goes on from part to part that rules give just what a walk gives.
use Rattle.std.proofs.Common.{refl, Bool, true, false, IsTrue, Option, Some, None, Result, Ok}
use Rattle.vf_base.specs.declared.refusal.Refusal.{Refusal}
use Rattle.vf_declared.specs.declared.scope.Scope.{Scope}
use Rattle.vf_walk.specs.Walking.{Only, Optional, Then, Walked, optional}
use Rattle.vf_order_laws.specs.walk.Agreeing.{AreWalked}
use Rattle.vf_order_laws.specs.walk.Following.{after, choose}
use Rattle.vf_order_laws.proofs.walk.ThenCome.{then_comes, then_found}

pub only_walked : {A : Type 0} (r : Result A Refusal) → AreWalked (Only r) r
only_walked r = record { comes = λ w h. h.is; found = record { is = refl } }

pub then_walked : {A B : Type 0} {P : Result A Refusal → Type 0} {Q : A → Result B Refusal → Type 0} {f : A → Result B Refusal} {r : Result A Refusal} → AreWalked P r → ((a : A) → AreWalked (Q a) (f a)) → AreWalked (Then P Q) (after f r)
then_walked {f = f} {r = r} p q = record { comes = λ w h. then_comes p.comes (λ a. (q a).comes) h; found = then_found f r p.found (λ a. (q a).found) }

-- what is given in another way is found too
pub walked_as : {A : Type 0} {P Q : Result A Refusal → Type 0} {r : Result A Refusal} → ((w : Result A Refusal) → Q w → P w) → ((w : Result A Refusal) → P w → Q w) → AreWalked P r → AreWalked Q r
walked_as {r = r} f g h = record { comes = λ w q. h.comes w (f w q); found = g r h.found }

-- a test tells which of two things is found
pub decided_walked : {A : Type 0} {P : Result A Refusal → Type 0} {D : Type 0} {v w : Result A Refusal} (b : Bool) → (IsTrue b → D) × (D → IsTrue b) → (D → AreWalked P v) → ((D → ⊥) → AreWalked P w) → AreWalked P (choose b v w)
unfolding choose
decided_walked true t f g = f (t.0 refl)
decided_walked false t f g = g (λ d. let e = t.1 d in cc)

pub optional_walked : {A : Type 0} (F : A → Scope → Walked → Type 0) (f : A → Scope → Walked) → ((a : A) (s : Scope) → AreWalked (F a s) (f a s)) → (o : Option A) (s : Scope) → AreWalked (Optional F o s) (optional f o s)
optional_walked F f each None s = only_walked (Ok s)
optional_walked F f each (Some a) s = each a s
