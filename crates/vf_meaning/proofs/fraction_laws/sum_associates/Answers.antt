use Rattle.vf_meaning.proofs.Fractions.{sum_associates}
use Rattle.vf_meaning.proofs.fraction_laws.sum_associates.Goals as goal

pub returns : goal.returns
returns c = sum_associates
