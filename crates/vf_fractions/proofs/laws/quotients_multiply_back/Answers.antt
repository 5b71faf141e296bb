use Rattle.vf_fractions.proofs.Quotients.{quotients_multiply_back}
use Rattle.vf_fractions.proofs.laws.quotients_multiply_back.Goals as goal

pub returns : goal.returns
returns c = quotients_multiply_back
