use Rattle.std.proofs.Common.{◌≡◌, ℕ, ◌<◌, ◌⊎◌, length, sum, IsTrue, IsFalse}
use Rattle.vf_congruence.specs.Meeting.{StayTogether, OnlyCongruentMeet, IsSettledAt, IsStillAt, AreNumbersBounded}
use Rattle.vf_congruence.proofs.joining.settle_once.Given as goal

abbrev pub invariant-loop-a : goal.invariant-loop-a
invariant-loop-a l = record {
  settled : IsFalse l.changed → (j : ℕ) → j < l.a → IsStillAt l.nodes l.settled l.classes j ⊎ ((k : ℕ) → k < length l.classes → IsSettledAt l.nodes l.classes j k);
  kept : StayTogether l.initial.classes l.classes;
  bounded : AreNumbersBounded l.initial.classes l.classes;
  only : OnlyCongruentMeet l.nodes l.initial.classes l.classes;
  same : IsFalse l.changed → l.classes ≡ l.initial.classes;
  falls : IsTrue l.changed → sum l.classes < sum l.initial.classes;
}
