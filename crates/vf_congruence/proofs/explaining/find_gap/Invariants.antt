use Rattle.std.proofs.Common.{ℕ, ◌<◌, length}
use Rattle.vf_congruence.specs.Meeting.{IsSettledAt}
use Rattle.vf_congruence.proofs.explaining.find_gap.Given as goal

abbrev pub invariant-loop-a : goal.invariant-loop-a
invariant-loop-a l = (k b : ℕ) → k < l.a → b < length l.labels → IsSettledAt l.nodes l.labels k b
