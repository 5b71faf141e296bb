use Rattle.vf_meaning.proofs.Fractions.{product_distributes}
use Rattle.vf_meaning.proofs.fraction_laws.product_distributes.Goals as goal

pub returns : goal.returns
returns c = product_distributes
