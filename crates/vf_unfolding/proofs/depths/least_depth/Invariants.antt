use Rattle.std.proofs.Common.{◌≡◌, ◌≤◌, min, drop}
use Rattle.vf_question.specs.Unfolded.{least_depth}
use Rattle.vf_unfolding.proofs.depths.least_depth.Given as goal

abbrev pub invariant-loop-unfolding : goal.invariant-loop-unfolding
invariant-loop-unfolding l = record {
  small : l.least ≤ 5;
  rest : min l.least (least_depth (drop l.unfolding-index l.made) l.term) ≡ least_depth l.made l.term;
}
