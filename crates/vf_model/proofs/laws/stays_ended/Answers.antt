use Rattle.vf_model.proofs.Machine.{no_event_changes}
use Rattle.vf_model.proofs.laws.stays_ended.Goals as goal

pub returns : goal.returns
returns c = no_event_changes
