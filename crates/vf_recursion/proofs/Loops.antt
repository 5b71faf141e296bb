-- The loop over items: the first fault.
use Rattle.std.proofs.Common.{◌≡◌, Option, None, sym, ap, ◌∙◌}
use Rattle.std.specs.Option.{option_or}
use Rattle.vf_base.specs.declared.place.Place.{Place}
use Rattle.vf_base.specs.declared.refusal.RuleFault.{RuleFault}
use Rattle.vf_base.specs.declared.refusal.RuleFault.TheVariants as faults
use Rattle.vf_fixpoint.specs.Answers.{IsFaultOf}

-- a fault of an item stands in front of all behind it
pub here : (o rest whole : Option Place) (e : RuleFault) → IsFaultOf o e → option_or o rest ≡ whole → IsFaultOf whole e
here o rest whole (faults.Refused r) (rule, at, shown) h = (rule, sym h ∙ ap (λ p. option_or p rest) at, shown)
here o rest whole faults.Memory f h = tt

-- an item without a fault leaves what is behind it
pub more : (o rest whole : Option Place) → o ≡ None → option_or o rest ≡ whole → rest ≡ whole
more o rest whole none h = sym (ap (λ p. option_or p rest) none) ∙ h
