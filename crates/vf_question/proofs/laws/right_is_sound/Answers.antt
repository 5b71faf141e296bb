use Rattle.vf_question.proofs.Settled.{right_sound}
use Rattle.vf_question.proofs.laws.right_is_sound.Goals as goal

pub returns : goal.returns
returns c = right_sound
