use Rattle.std.proofs.Common.{sym}
use Rattle.vf_walk.proofs.Loops.{parameters_more}
use Rattle.vf_walk.proofs.parameters.walk_list.Goals as goal

pub loop-at-preserved : goal.loop-at-preserved
loop-at-preserved c = parameters_more c.args.list.now c.loop-at.at _ _ _ _ (sym c.in-Some.ensures) c.in_ok-walk_variable.ensures c.loop-at.invariant
