use Rattle.std.proofs.Common.{◌≡◌, ℕ, ◌<◌, sum, IsTrue, IsFalse}
use Rattle.vf_congruence.specs.Meeting.{StayTogether, OnlyCongruentMeet, IsSettledAt, AreNumbersBounded}
use Rattle.vf_congruence.proofs.joining.settle_term.Given as goal

abbrev pub invariant-loop-b : goal.invariant-loop-b
invariant-loop-b l = record {
  settled : IsFalse l.changed → (k : ℕ) → k < l.b → IsSettledAt l.nodes l.classes l.a k;
  kept : StayTogether l.initial.classes l.classes;
  bounded : AreNumbersBounded l.initial.classes l.classes;
  only : OnlyCongruentMeet l.nodes l.initial.classes l.classes;
  same : IsFalse l.changed → l.classes ≡ l.initial.classes;
  falls : IsTrue l.changed → sum l.classes < sum l.initial.classes;
}
