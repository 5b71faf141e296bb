use Rattle.vf_resolved_laws.proofs.Telling.{truths_are_read}
use Rattle.vf_resolved_laws.proofs.truths_are_read.Goals as goal

pub returns : goal.returns
returns c = truths_are_read
