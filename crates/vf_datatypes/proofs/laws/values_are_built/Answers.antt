use Rattle.vf_datatypes.proofs.Values.{values_are_built}
use Rattle.vf_datatypes.proofs.laws.values_are_built.Goals as goal

pub returns : goal.returns
returns c = values_are_built
