use Rattle.vf_meaning.proofs.FitSteps.{handles_are_there}
use Rattle.vf_meaning.proofs.fit_laws.handles_are_there.Goals as goal

pub returns : goal.returns
returns c = handles_are_there
