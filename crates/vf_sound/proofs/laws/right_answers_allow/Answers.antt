use Rattle.vf_sound.proofs.Allowing.{right_answers_allow}
use Rattle.vf_sound.proofs.laws.right_answers_allow.Goals as goal

pub returns : goal.returns
returns g c = right_answers_allow
