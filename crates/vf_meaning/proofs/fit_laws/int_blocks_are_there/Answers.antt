use Rattle.vf_meaning.proofs.FitSteps.{int_blocks_are_there}
use Rattle.vf_meaning.proofs.fit_laws.int_blocks_are_there.Goals as goal

pub returns : goal.returns
returns c = int_blocks_are_there
