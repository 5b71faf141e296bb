use Rattle.std.proofs.Common.{◌≡◌, ℕ, ◌<◌, slice_index, sum, IsTrue, IsFalse}
use Rattle.vf_congruence.specs.Meeting.{AreTogether, StayTogether, OnlyPairedMeet, AreNumbersBounded}
use Rattle.vf_congruence.proofs.joining.join_parts.Given as goal

abbrev pub invariant-loop-i : goal.invariant-loop-i
invariant-loop-i l = record {
  joined : (k : ℕ) → k < l.i → AreTogether l.classes (slice_index l.xs k) (slice_index l.ys k);
  kept : StayTogether l.initial.classes l.classes;
  bounded : AreNumbersBounded l.initial.classes l.classes;
  only : OnlyPairedMeet l.initial.classes l.xs l.ys l.classes;
  same : IsFalse l.changed → l.classes ≡ l.initial.classes;
  falls : IsTrue l.changed → sum l.classes < sum l.initial.classes;
}
