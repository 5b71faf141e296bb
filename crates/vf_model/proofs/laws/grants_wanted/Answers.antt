use Rattle.vf_model.proofs.FreeBlocks.{wanted_granted}
use Rattle.vf_model.proofs.laws.grants_wanted.Goals as goal

pub returns : goal.returns
returns c = wanted_granted
