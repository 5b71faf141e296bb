use Rattle.std.proofs.Common.{◌≡◌, ◌<◌, ℕ, Some, length, slice_get}
use Rattle.std.specs.Prelude.{count_by, is_none, MatchBool}
use Rattle.vf_arith.specs.declared.bounds.Edge.{Edge}
use Rattle.vf_log.specs.Derivations.{IsContinued}
use Rattle.vf_explain.specs.Reached.{AreReasons, AreReached, HaveStayed, LeadsOn}
use Rattle.vf_explain.proofs.bound.reach_more.Given as goal

abbrev pub invariant-loop-i : goal.invariant-loop-i
invariant-loop-i l = record {
  continued : IsContinued l.fn.log l.log;
  reasons : AreReasons l.log.known l.bounds.edges l.reasons;
  reached : AreReached l.log.known l.bounds.edges l.first l.steps;
  long : length l.steps ≡ length l.fn.steps;
  stays : HaveStayed l.fn.steps l.steps;
  told : MatchBool l.is_any (count_by is_none l.steps < count_by is_none l.fn.steps) ((l.steps ≡ l.fn.steps) × ((k : ℕ) (e : Edge) → k < l.i → slice_get l.bounds.edges k ≡ Some e → LeadsOn l.bounds.edges l.first.to l.fn.steps e → ⊥));
}
