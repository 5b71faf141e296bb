use Rattle.vf_meaning.proofs.Fractions.{order_told}
use Rattle.vf_meaning.proofs.fraction_laws.tells_order.Goals as goal

pub returns : goal.returns
returns c = order_told
