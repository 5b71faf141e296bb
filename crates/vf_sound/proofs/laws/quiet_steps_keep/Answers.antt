use Rattle.vf_sound.proofs.Shares.{quiet_steps_keep}
use Rattle.vf_sound.proofs.laws.quiet_steps_keep.Goals as goal

pub returns : goal.returns
returns c = quiet_steps_keep
