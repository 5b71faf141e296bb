use Rattle.vf_normal.proofs.Compared.{comparisons_meant}
use Rattle.vf_normal.proofs.laws.comparison_literals_mean_it.Goals as goal

pub returns : goal.returns
returns c = comparisons_meant
