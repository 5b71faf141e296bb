use Rattle.vf_walk.proofs.Steps.{next_of}
use Rattle.vf_walk.proofs.statement.walk_while_head.Goals as goal

pub returns : goal.returns
returns g c = next_of c.in_ok-walk_condition.ensures c.walk_invariant.ensures
