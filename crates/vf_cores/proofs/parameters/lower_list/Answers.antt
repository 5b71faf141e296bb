use Rattle.std.proofs.Common.{sym, arith}
use Rattle.vf_cores.proofs.Extending.{list_end, list_more}
use Rattle.vf_cores.proofs.parameters.lower_list.Goals as goal

pub loop-at-preserved : goal.loop-at-preserved
loop-at-preserved c = λ e a h. c.loop-at.invariant e a (list_more _ _ c.args.list.now c.loop-at.at _ _ _ _ _ (sym c.in-Some.ensures) c.in_ok-lower_parameter.ensures h)

pub returns : goal.returns
returns c = c.loop-at.invariant _ _ (list_end _ c.args.list.now c.loop-at.at c.loop-at.draft (omega arith))
