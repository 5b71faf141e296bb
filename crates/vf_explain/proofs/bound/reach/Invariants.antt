use Rattle.std.proofs.Common.{◌≡◌, ℕ, Some, length, slice_get}
use Rattle.std.specs.Prelude.{count_by, is_none}
use Rattle.vf_log.specs.Derivations.{IsContinued}
use Rattle.vf_explain.specs.Reached.{AreReasons, AreReached}
use Rattle.vf_explain.proofs.bound.reach.Given as goal

abbrev pub invariant-loop-step : goal.invariant-loop-step
invariant-loop-step l = record {
  continued : IsContinued l.fn.log l.log;
  reasons : AreReasons l.log.known l.bounds.edges l.reasons;
  reached : AreReached l.log.known l.bounds.edges l.first l.steps;
  long : length l.steps ≡ length l.fn.steps;
  begun : (s : ℕ) × (slice_get l.steps l.first.to ≡ Some (Some s));
}

abbrev pub decreases-loop-step : goal.decreases-loop-step
decreases-loop-step l = count_by is_none l.steps
