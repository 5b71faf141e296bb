use Rattle.std.proofs.Common.{sym}
use Rattle.vf_datatypes.proofs.Loops.{constructors_more}
use Rattle.vf_datatypes.proofs.constructors.declare_constructors.Goals as goal

pub loop-at-preserved : goal.loop-at-preserved
loop-at-preserved c = constructors_more c.args.stated.now c.args.own.now c.args.written.now c.loop-at.at _ _ _ _ (sym c.in-Some.ensures) c.in_ok-declare_constructor.ensures c.loop-at.invariant
