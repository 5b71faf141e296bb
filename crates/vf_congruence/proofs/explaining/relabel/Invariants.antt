use Rattle.std.proofs.Common.{◌≡◌, ℕ, ◌<◌, ◌≤◌, length, slice_index}
use Rattle.vf_log.specs.Derivations.{IsContinued}
use Rattle.vf_congruence.specs.Explained.{AreExplained}
use Rattle.vf_congruence.proofs.explaining.relabel.Given as goal

abbrev pub invariant-loop-i : goal.invariant-loop-i
invariant-loop-i l = record {
  continued : IsContinued l.fn.log l.log;
  explained : AreExplained l.log.known l.labels l.steps;
  long : length l.labels ≡ length l.fn.labels;
  moved : (k : ℕ) → k < l.i → slice_index l.fn.labels k ≡ l.from → slice_index l.labels k ≡ l.to;
  kept : (k : ℕ) → (slice_index l.fn.labels k ≡ l.from → ⊥) → slice_index l.labels k ≡ slice_index l.fn.labels k;
  later : (k : ℕ) → l.i ≤ k → slice_index l.labels k ≡ slice_index l.fn.labels k;
}
