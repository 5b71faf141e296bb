use Rattle.vf_sound.proofs.Worked.{seven_is_accepted}
use Rattle.vf_sound.proofs.examples.seven_is_accepted.Goals as goal

pub returns : goal.returns
returns c = seven_is_accepted
