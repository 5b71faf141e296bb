use Rattle.std.proofs.Common.{sum, ◌≤◌}
use Rattle.vf_congruence.specs.Meeting.{StayTogether, OnlyCongruentMeet, AreNumbersBounded}
use Rattle.vf_congruence.proofs.joining.settle.Given as goal

abbrev pub invariant-loop : goal.invariant-loop
invariant-loop l = record {
  kept : StayTogether l.initial.classes l.classes;
  bounded : AreNumbersBounded l.initial.classes l.classes;
  only : OnlyCongruentMeet l.nodes l.initial.classes l.classes;
  weight : sum l.classes ≤ sum l.initial.classes;
}

abbrev pub decreases-loop : goal.decreases-loop
decreases-loop l = sum l.classes
