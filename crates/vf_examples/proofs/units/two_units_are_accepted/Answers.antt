use Rattle.vf_examples.proofs.TwoUnits.{two_units_are_accepted}
use Rattle.vf_examples.proofs.units.two_units_are_accepted.Goals as goal

pub returns : goal.returns
returns c = two_units_are_accepted
