use Rattle.vf_meaning.proofs.FitSteps.{mutexes_are_acquired}
use Rattle.vf_meaning.proofs.fit_laws.mutexes_are_acquired.Goals as goal

pub returns : goal.returns
returns c = mutexes_are_acquired
