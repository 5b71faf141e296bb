use Rattle.vf_meaning.proofs.Fractions.{sum_commutes}
use Rattle.vf_meaning.proofs.fraction_laws.sum_commutes.Goals as goal

pub returns : goal.returns
returns c = sum_commutes
