use Rattle.std.proofs.Common.{sym}
use Rattle.vf_walk.proofs.Loops.{items_more}
use Rattle.vf_walk.proofs.items.walk_items.Goals as goal

pub loop-at-preserved : goal.loop-at-preserved
loop-at-preserved g c = items_more (g.A.Annotations.meanings c.args.annotations.now) c.args.items.now c.loop-at.at _ _ _ _ (sym c.in-Some.ensures) c.in_ok-walk_item.ensures c.loop-at.invariant
