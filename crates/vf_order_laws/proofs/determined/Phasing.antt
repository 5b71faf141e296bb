-- Units come to one thing at most, and pass their phases or are refused in one way.
use Rattle.std.proofs.Common.{◌≡◌, List}
use Rattle.vf_base.specs.declared.refusal.Refusal.{Refusal}
use Rattle.vf_declared.specs.declared.scope.Scope.{Scope}
use Rattle.vf_syntax.specs.declared.item.Item.{Item}
use Rattle.vf_resolve.specs.declared.files.Files.{Files}
use Rattle.vf_phases.specs.Phases.{IsRefusedInPhases, PassesPhases}
use Rattle.vf_order_laws.proofs.walk.UnitsCome.{passes_come, refusals_come}

-- a unit does not pass its phases and is refused in one
pub never_both : {f : Files} {xs : List Item} {s : Scope} {r : Refusal} → PassesPhases f xs s → IsRefusedInPhases f xs r → ⊥
never_both p q = let e = passes_come p in let h = refusals_come q in cc

-- a unit is refused in one way
pub one_refusal : {f : Files} {xs : List Item} {r q : Refusal} → IsRefusedInPhases f xs r → IsRefusedInPhases f xs q → r ≡ q
one_refusal a b = let e = refusals_come a in let h = refusals_come b in cc
