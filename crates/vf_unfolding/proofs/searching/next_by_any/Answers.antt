use Rattle.std.proofs.Common.{below_more}
use Rattle.vf_unfolding.specs.Searched.{IsCaseExhausted}
use Rattle.vf_unfolding.proofs.searching.next_by_any.Goals as goal

pub loop-by-preserved : goal.loop-by-preserved
loop-by-preserved g c =
    below_more (λ k. IsCaseExhausted (g.U.Unfolder.unfoldings c.args.unfolder.now) c.args.made.now c.args.interning.now.literals c.args.terms.now c.args.depths.now c.args.application.now c.args.depth c.args.switched k) c.loop-by.by c.loop-by.invariant
    (rw c.in_default.is at c.in_ok-next.ensures)
