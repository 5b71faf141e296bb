use Rattle.vf_meaning.proofs.Fractions.{product_commutes}
use Rattle.vf_meaning.proofs.fraction_laws.product_commutes.Goals as goal

pub returns : goal.returns
returns c = product_commutes
