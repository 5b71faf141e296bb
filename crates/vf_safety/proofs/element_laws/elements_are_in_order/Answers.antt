use Rattle.vf_safety.proofs.ElementOrder.{elements_are_in_order}
use Rattle.vf_safety.proofs.element_laws.elements_are_in_order.Goals as goal

pub returns : goal.returns
returns c = elements_are_in_order
