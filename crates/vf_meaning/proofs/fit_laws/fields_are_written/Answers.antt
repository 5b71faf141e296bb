use Rattle.vf_meaning.proofs.FitSteps.{fields_are_written}
use Rattle.vf_meaning.proofs.fit_laws.fields_are_written.Goals as goal

pub returns : goal.returns
returns c = fields_are_written
