use Rattle.std.proofs.Common.{ℕ, ◌<◌, slice_index}
use Rattle.vf_refute.specs.declared.steps.Derived.TheVariants.{AreEqual}
use Rattle.vf_refute.specs.Refutations.{HasDerived}
use Rattle.vf_refute.proofs.rows.are_pairwise_equal.Given as goal

abbrev pub invariant-loop-i : goal.invariant-loop-i
invariant-loop-i l = (k : ℕ) → k < l.i → HasDerived l.known (slice_index l.steps k) (AreEqual (slice_index l.xs k) (slice_index l.ys k))
