use Rattle.vf_meaning.proofs.FitSteps.{blocks_are_freed}
use Rattle.vf_meaning.proofs.fit_laws.blocks_are_freed.Goals as goal

pub returns : goal.returns
returns c = blocks_are_freed
