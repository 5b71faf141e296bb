use Rattle.vf_view_laws.proofs.Example.{lists_stand_in_order}
use Rattle.vf_view_laws.proofs.examples.lists_stand_in_order.Goals as goal

pub returns : goal.returns
returns c = lists_stand_in_order
