use Rattle.vf_unit_laws.proofs.Example.{lengths_stand_in_order}
use Rattle.vf_unit_laws.proofs.examples.lengths_stand_in_order.Goals as goal

pub returns : goal.returns
returns c = lengths_stand_in_order
