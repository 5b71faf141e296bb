use Rattle.std.proofs.Common.{ℕ, ◌<◌}
use Rattle.vf_unfolding.specs.Searched.{IsCaseExhausted}
use Rattle.vf_unfolding.proofs.searching.next_by_any.Given as goal

abbrev pub invariant-loop-by : goal.invariant-loop-by
invariant-loop-by g l = (k : ℕ) → k < l.by → IsCaseExhausted (g.U.Unfolder.unfoldings l.unfolder) l.made l.interning.literals l.terms l.depths l.application l.depth l.switched k
