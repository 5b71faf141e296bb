use Rattle.std.proofs.Common.{ℕ, ◌<◌}
use Rattle.vf_congruence.specs.Meeting.{IsSettledAt}
use Rattle.vf_congruence.proofs.explaining.gap_beside.Given as goal

abbrev pub invariant-loop-b : goal.invariant-loop-b
invariant-loop-b l = (k : ℕ) → k < l.b → IsSettledAt l.nodes l.labels l.a k
