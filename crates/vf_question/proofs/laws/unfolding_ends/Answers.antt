use Rattle.vf_question.proofs.Ending.{unfolding_ends}
use Rattle.vf_question.proofs.laws.unfolding_ends.Goals as goal

pub returns : goal.returns
returns c = unfolding_ends
