use Rattle.std.proofs.Common.{sym}
use Rattle.vf_order.proofs.Loops.{items_more}
use Rattle.vf_order.proofs.unit.first_unordered.Goals as goal

pub loop-at-preserved : goal.loop-at-preserved
loop-at-preserved c = items_more c.args.unit.now.items c.loop-at.at _ _ _ _ _ (sym c.in-Some.ensures) c.unordered_item-found.ensures c.or-refused.ensures c.loop-at.invariant
