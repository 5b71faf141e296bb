use Rattle.vf_recheck.proofs.Sound.{refutations_sound}
use Rattle.vf_recheck.proofs.laws.refutations_are_sound.Goals as goal

pub returns : goal.returns
returns c = refutations_sound
