use Rattle.std.proofs.Common.{◌≡◌, ◌<◌, ℕ, length}
use Rattle.std.specs.Prelude.{slice_index}
use Rattle.vf_unfolding.specs.Searched.{IsDepth}
use Rattle.vf_unfolding.proofs.depths.depths.Given as goal

abbrev pub invariant-loop-i : goal.invariant-loop-i
invariant-loop-i l = record {
  long : length l.depths.items ≡ l.i;
  each : (k : ℕ) → k < l.i → IsDepth l.asked l.made l.terms k (slice_index l.depths.items k);
}
