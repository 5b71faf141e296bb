use Rattle.vf_sound.proofs.Runs.{events_follow}
use Rattle.vf_sound.proofs.laws.events_follow.Goals as goal

pub returns : goal.returns
returns c = events_follow
