use Rattle.vf_functions.proofs.Counting.{as_many_are_left}
use Rattle.vf_functions.proofs.as_many_are_left.Goals as goal

pub returns : goal.returns
returns c = as_many_are_left
