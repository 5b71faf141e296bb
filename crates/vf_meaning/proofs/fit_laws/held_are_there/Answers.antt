use Rattle.vf_meaning.proofs.FitSteps.{held_are_there}
use Rattle.vf_meaning.proofs.fit_laws.held_are_there.Goals as goal

pub returns : goal.returns
returns c = held_are_there
