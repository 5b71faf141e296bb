use Rattle.vf_meaning.proofs.Fractions.{product_associates}
use Rattle.vf_meaning.proofs.fraction_laws.product_associates.Goals as goal

pub returns : goal.returns
returns c = product_associates
