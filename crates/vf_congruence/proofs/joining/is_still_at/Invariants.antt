use Rattle.std.proofs.Common.{ℕ, ◌<◌, slice_index}
use Rattle.vf_congruence.specs.Meeting.{IsStill}
use Rattle.vf_congruence.proofs.joining.is_still_at.Given as goal

abbrev pub invariant-loop-part : goal.invariant-loop-part
invariant-loop-part l = (k : ℕ) → k < l.part-index → IsStill l.settled l.classes (slice_index l.part-items k)
