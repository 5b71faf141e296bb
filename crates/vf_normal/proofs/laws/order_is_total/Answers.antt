use Rattle.vf_normal.proofs.Order.{order_total}
use Rattle.vf_normal.proofs.laws.order_is_total.Goals as goal

pub returns : goal.returns
returns c = order_total
