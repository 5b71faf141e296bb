use Rattle.vf_order.proofs.Sums.{assignment_is}
use Rattle.vf_order.proofs.stmt.unordered_simple.Goals as goal

pub returns-in-Assignment : goal.returns-in-Assignment
returns-in-Assignment c = assignment_is _ _ _ _ _ _ _ _ c.in-Assignment.is c.look_at_left-target.ensures c.look-value.ensures c.beside.ensures
