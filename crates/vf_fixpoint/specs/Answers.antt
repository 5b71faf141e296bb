-- How a refusal is answered.
use Rattle.std.specs.Prelude.{◌≡◌, Option, Some}
use Rattle.vf_base.specs.declared.place.Place.{Place}
use Rattle.vf_base.specs.declared.rule.Rule.TheVariants as rules
use Rattle.vf_base.specs.declared.refusal.RuleFault.{RuleFault}
use Rattle.vf_base.specs.declared.refusal.RuleFault.TheVariants as faults
use Rattle.vf_base.specs.declared.refusal.Shown.TheVariants as shown

-- a fault refuses the fixpoint at this place, or is want of memory
abbrev pub IsFaultOf : Option Place → RuleFault → Type 0
IsFaultOf at (faults.Refused r) = (r.rule ≡ rules.Fixpoint) × (at ≡ Some r.place) × (r.shown ≡ shown.Nothing)
IsFaultOf at faults.Memory = Unit {0}
