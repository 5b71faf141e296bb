use Rattle.std.proofs.Common.{◌≡◌, length, sum}
use Rattle.vf_log.specs.Copies.{HaveSameTerms}
use Rattle.vf_log.specs.Derivations.{IsContinued}
use Rattle.vf_congruence.specs.Explained.{AreExplained, AreReasons}
use Rattle.vf_congruence.proofs.explaining.join_until.Given as goal

abbrev pub invariant-loop-labels : goal.invariant-loop-labels
invariant-loop-labels l = record {
  continued : IsContinued l.fn.log l.log;
  explained : AreExplained l.log.known l.labels l.steps;
  reasons : AreReasons l.log.known l.merged l.reasons;
  same : HaveSameTerms l.nodes l.log.nodes;
  long : length l.labels ≡ length l.fn.labels;
}

abbrev pub decreases-loop-labels : goal.decreases-loop-labels
decreases-loop-labels l = sum l.labels
