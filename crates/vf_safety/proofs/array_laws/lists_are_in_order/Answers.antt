use Rattle.vf_safety.proofs.ListOrder.{lists_are_in_order}
use Rattle.vf_safety.proofs.array_laws.lists_are_in_order.Goals as goal

pub returns : goal.returns
returns c = lists_are_in_order
