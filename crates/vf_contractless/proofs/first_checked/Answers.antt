use Rattle.std.proofs.Common.{sym, ◌∙◌}
use Rattle.vf_contractless.specs.Missing.{is_checked}
use Rattle.vf_contractless.proofs.Loops.{found_further}
use Rattle.vf_contractless.proofs.first_checked.Goals as goal

pub loop-at-preserved : goal.loop-at-preserved
loop-at-preserved c = found_further is_checked c.args.items.now c.loop-at.at c.in-Some.item.now _ (sym c.in-Some.ensures) (sym c.is_checked.ensures ∙ c.if-is_checked.false) c.loop-at.invariant
