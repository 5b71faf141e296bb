use Rattle.vf_schedule.proofs.texts.Texts.{same_events}
use Rattle.vf_schedule.proofs.texts.read.one_reading.Goals as goal

pub returns : goal.returns
returns c = same_events
