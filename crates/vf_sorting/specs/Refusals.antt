-- Refusals by a rule at a place.
use Rattle.vf_base.specs.declared.place.Place.{Place}
use Rattle.vf_base.specs.declared.refusal.Refusal.{Refusal}
use Rattle.vf_base.specs.declared.refusal.Shown.TheVariants as shown
use Rattle.vf_base.specs.declared.rule.Rule.{Rule}

-- a refusal by a rule at a place, which shows nothing else
abbrev pub refused : Rule → Place → Refusal
refused r p = record { rule = r; place = p; shown = shown.Nothing }
