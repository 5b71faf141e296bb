use Rattle.vf_meaning.proofs.FitSteps.{fields_are_there}
use Rattle.vf_meaning.proofs.fit_laws.fields_are_there.Goals as goal

pub returns : goal.returns
returns c = fields_are_there
