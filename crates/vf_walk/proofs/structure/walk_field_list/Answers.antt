use Rattle.std.proofs.Common.{sym}
use Rattle.vf_walk.proofs.Loops.{fields_more}
use Rattle.vf_walk.proofs.structure.walk_field_list.Goals as goal

pub loop-at-preserved : goal.loop-at-preserved
loop-at-preserved c = fields_more c.args.scope.now c.args.list.now c.loop-at.at _ _ _ _ (sym c.in-Some.ensures) c.in_ok-walk_field.ensures c.loop-at.invariant
