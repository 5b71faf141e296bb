use Rattle.std.proofs.Common.{ℕ, ◌<◌, slice_index_or}
use Rattle.vf_closure.specs.Terms.{Term, IsWithin}
use Rattle.vf_formula.specs.Rows.{size_of}
use Rattle.vf_unfolding.proofs.within.+is_within.Given as goal

abbrev pub decreases-is_within : goal.decreases-is_within
decreases-is_within l = size_of l.whole.now

abbrev pub invariant-loop-part : goal.invariant-loop-part
invariant-loop-part l = (k : ℕ) (d : Term) → k < l.part-index → IsWithin l.term (slice_index_or l.part-items k d) → ⊥
