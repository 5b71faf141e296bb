use Rattle.vf_order_laws.proofs.determined.Laws.{units_are_determined}
use Rattle.vf_order_laws.proofs.determined.units_are_determined.Goals as goal

pub returns : goal.returns
returns c = units_are_determined
