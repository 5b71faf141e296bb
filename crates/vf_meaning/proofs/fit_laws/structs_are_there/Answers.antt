use Rattle.vf_meaning.proofs.FitSteps.{structs_are_there}
use Rattle.vf_meaning.proofs.fit_laws.structs_are_there.Goals as goal

pub returns : goal.returns
returns c = structs_are_there
