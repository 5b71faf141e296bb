use Rattle.vf_sound.proofs.Worked.{overflow_is_seen}
use Rattle.vf_sound.proofs.examples.overflow_is_seen.Goals as goal

pub returns : goal.returns
returns c = overflow_is_seen
