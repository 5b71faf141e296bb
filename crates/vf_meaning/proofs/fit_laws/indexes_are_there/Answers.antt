use Rattle.vf_meaning.proofs.FitSteps.{indexes_are_there}
use Rattle.vf_meaning.proofs.fit_laws.indexes_are_there.Goals as goal

pub returns : goal.returns
returns c = indexes_are_there
