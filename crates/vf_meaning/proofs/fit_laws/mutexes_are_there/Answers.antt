use Rattle.vf_meaning.proofs.FitSteps.{mutexes_are_there}
use Rattle.vf_meaning.proofs.fit_laws.mutexes_are_there.Goals as goal

pub returns : goal.returns
returns c = mutexes_are_there
