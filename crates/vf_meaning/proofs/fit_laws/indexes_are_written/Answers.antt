use Rattle.vf_meaning.proofs.FitSteps.{indexes_are_written}
use Rattle.vf_meaning.proofs.fit_laws.indexes_are_written.Goals as goal

pub returns : goal.returns
returns c = indexes_are_written
