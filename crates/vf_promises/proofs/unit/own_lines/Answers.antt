use Rattle.std.proofs.Common.{rules, ◌<◌, length}
use Rattle.vf_promises.specs.Lines.{item_lines}
use Rattle.vf_promises.proofs.Walks.{along_more}
use Rattle.vf_promises.proofs.unit.own_lines.Goals as goal

pub loop-item-preserved : goal.loop-item-preserved
loop-item-preserved c =
    let within : c.loop-item.item-index < length c.as_slice-item-items.result.now = search rules in
    along_more (item_lines c.args.snapshot.now c.args.scope.now c.args.names.now) c.args.items.now c.as_slice-item-items.result.now c.loop-item.item-index c.item-item.result c.loop-item.known c.learn.new.known c.loop-item.all c.add_item.new.all _ c.as_slice-item-items.ensures within c.item-item.is c.in_ok-add_item.ensures c.in_ok-learn.ensures c.loop-item.invariant
