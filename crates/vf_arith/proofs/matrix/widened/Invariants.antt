use Rattle.std.proofs.Common.{◌≡◌, ℕ, ◌<◌, ◌/◌, ◌%◌, length}
use Rattle.vf_arith.specs.Matrices.{entry, distance}
use Rattle.vf_arith.specs.Histories.{IsDistanceIn}
use Rattle.vf_arith.proofs.matrix.widened.Given as goal

abbrev pub invariant-loop-k : goal.invariant-loop-k
invariant-loop-k l = record {
  long : length l.wide.items ≡ l.k;
  each : (j : ℕ) → j < l.k → IsDistanceIn l.size (distance l.size l.matrix) (j / l.width) (j % l.width) (entry l.wide.items j);
}
