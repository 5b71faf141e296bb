use Rattle.vf_sound.proofs.Accepted.{accepted_is_safe}
use Rattle.vf_sound.proofs.safety.accepted_is_safe.Goals as goal

pub returns : goal.returns
returns c = accepted_is_safe
