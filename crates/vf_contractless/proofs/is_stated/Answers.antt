use Rattle.std.proofs.Common.{sym, ◌∙◌}
use Rattle.vf_contractless.specs.Missing.{states}
use Rattle.vf_contractless.proofs.Loops.{any_further}
use Rattle.vf_contractless.proofs.is_stated.Goals as goal

pub loop-at-preserved : goal.loop-at-preserved
loop-at-preserved c = any_further (states c.args.name.now) c.args.items.now c.loop-at.at c.in-Some.item.now _ (sym c.in-Some.ensures) (sym c.states.ensures ∙ c.if-states.false) c.loop-at.invariant
