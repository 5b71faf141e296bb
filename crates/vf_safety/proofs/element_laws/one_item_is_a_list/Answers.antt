use Rattle.vf_safety.proofs.ElementFixpoints.{one_item_is_a_list}
use Rattle.vf_safety.proofs.element_laws.one_item_is_a_list.Goals as goal

pub returns : goal.returns
returns c = one_item_is_a_list
