-- The rules give one answer at most, which is that of the walk.
use Rattle.std.proofs.Common.{◌≡◌, sym, ◌∙◌, Result}
use Rattle.vf_base.specs.declared.refusal.Refusal.{Refusal}
use Rattle.vf_order_laws.specs.walk.Agreeing.{AreWalked}
use Rattle.vf_order_laws.proofs.walk.Laws.{annotations_are_walked, assertion_comes, phases_are_walked, sort_comes, units_are_walked}
use Rattle.vf_order_laws.specs.determined.Determined.{AnnotationsAreDetermined, AssertionsAreDetermined, PhasesAreDetermined, SortsAreDetermined, UnitsAreDetermined}

-- what one walk gives is one thing
one : {A : Type 0} {P : Result A Refusal → Type 0} {r : Result A Refusal} → AreWalked P r → (v w : Result A Refusal) → P v → P w → v ≡ w
one h v w a b = sym (h.comes v a) ∙ h.comes w b

pub sorts_are_determined : SortsAreDetermined
sorts_are_determined s c k e v w a b = sym (sort_comes a) ∙ sort_comes b

pub assertions_are_determined : AssertionsAreDetermined
assertions_are_determined c s k xs v w a b = sym (assertion_comes a) ∙ assertion_comes b

pub annotations_are_determined : AnnotationsAreDetermined
annotations_are_determined d =
    let h = annotations_are_walked d in
    record {
      contract = λ o c s. one (h.contract o c s);
      invariant = λ file i s. one (h.invariant file i s);
      command = λ c s. one (h.command c s);
      item = λ i s. one (h.item i s);
    }

pub units_are_determined : UnitsAreDetermined
units_are_determined xs s = one (units_are_walked xs s)

pub phases_are_determined : PhasesAreDetermined
phases_are_determined f xs = one (phases_are_walked f xs)
