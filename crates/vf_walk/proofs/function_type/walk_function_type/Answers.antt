use Rattle.std.proofs.Common.{sym}
use Rattle.vf_walk.proofs.Steps.{next_of}
use Rattle.vf_walk.proofs.function_type.walk_function_type.Goals as goal

pub returns : goal.returns
returns g c = next_of (sym c.in_ok-given.ensures) c.walk_giving.ensures
