use Rattle.vf_fixpoint.proofs.Straying.{strays_are_calls}
use Rattle.vf_fixpoint.proofs.laws.strays_are_calls.Goals as goal

pub returns : goal.returns
returns c = strays_are_calls
