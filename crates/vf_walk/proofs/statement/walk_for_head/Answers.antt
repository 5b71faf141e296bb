use Rattle.vf_walk.proofs.Steps.{next_of}
use Rattle.vf_walk.proofs.statement.walk_for_head.Goals as goal

pub returns : goal.returns
returns g c = next_of c.in_ok-walk_for_parts.ensures c.walk_invariant.ensures
