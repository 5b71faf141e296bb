use Rattle.vf_truths.proofs.Meant.{truths_meant}
use Rattle.vf_truths.proofs.laws.truth_literals_mean_it.Goals as goal

pub returns : goal.returns
returns c = truths_meant
