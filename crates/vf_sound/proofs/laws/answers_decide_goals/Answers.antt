use Rattle.vf_sound.proofs.Deciding.{answers_decide}
use Rattle.vf_sound.proofs.laws.answers_decide_goals.Goals as goal

pub returns : goal.returns
returns c = answers_decide
