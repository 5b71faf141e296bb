use Rattle.vf_model.proofs.FreeBlocks.{least_granted}
use Rattle.vf_model.proofs.laws.grants_least_free.Goals as goal

pub returns : goal.returns
returns c = least_granted
