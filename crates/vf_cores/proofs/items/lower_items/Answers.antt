use Rattle.std.proofs.Common.{rules, sym, arith}
use Rattle.vf_cores.specs.Shown.{cores_shown}
use Rattle.vf_cores.proofs.Units.{items_end, items_memory, items_more, items_stop}
use Rattle.vf_cores.proofs.items.lower_items.Goals as goal

pub loop-at-preserved : goal.loop-at-preserved
loop-at-preserved g c = items_more (g.A.Annotations.meanings c.args.annotations.now) c.args.items.now c.loop-at.at _ _ _ _ _ _ _ (sym c.in-Some.ensures) c.in_ok-walk_item.ensures c.in_ok-add_core.ensures.kept c.in_ok-add_core.ensures.added c.loop-at.invariant

pub returns-in_err-walk_item : goal.returns-in_err-walk_item
returns-in_err-walk_item g c = items_stop (g.A.Annotations.meanings c.args.annotations.now) c.args.items.now c.loop-at.at _ _ _ _ _ _ c.in_err-walk_item.field-0.0 c.from_residual.result (sym c.in-Some.ensures) c.in_err-walk_item.ensures c.loop-at.invariant (search rules)

pub returns-in_err-add_core : goal.returns-in_err-add_core
returns-in_err-add_core g c = items_memory (g.A.Annotations.meanings c.args.annotations.now) c.args.items.now c.args.scope.now _ _ (search rules)

pub returns : goal.returns
returns g c = items_end (g.A.Annotations.meanings c.args.annotations.now) c.args.items.now c.loop-at.at c.args.scope.now c.loop-at.scope (cores_shown c.loop-at.cores.items) (omega arith) c.loop-at.invariant
