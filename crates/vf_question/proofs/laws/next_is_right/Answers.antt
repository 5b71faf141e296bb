use Rattle.vf_question.proofs.Settled.{next_right}
use Rattle.vf_question.proofs.laws.next_is_right.Goals as goal

pub returns : goal.returns
returns c = next_right
