use Rattle.vf_answer.proofs.Counting as counting
use Rattle.vf_answer.proofs.laws.goals_are_counted.Goals as goal

pub returns : goal.returns
returns c = counting.goals_are_counted
