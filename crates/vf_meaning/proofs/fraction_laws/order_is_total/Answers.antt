use Rattle.vf_meaning.proofs.Fractions.{order_is_total}
use Rattle.vf_meaning.proofs.fraction_laws.order_is_total.Goals as goal

pub returns : goal.returns
returns c = order_is_total
