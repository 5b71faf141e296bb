use Rattle.std.proofs.Common.{sym}
use Rattle.vf_walk.proofs.Loops.{types_more}
use Rattle.vf_walk.proofs.parameters.real_types.Goals as goal

pub loop-at-preserved : goal.loop-at-preserved
loop-at-preserved c = types_more c.args.meanings.now c.loop-at.at _ _ _ _ (sym c.in-Some.ensures) c.in_ok-add_type.ensures c.loop-at.invariant
