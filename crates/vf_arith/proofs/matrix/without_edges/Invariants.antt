use Rattle.std.proofs.Common.{◌≡◌, ℕ, ◌<◌, ◌/◌, ◌%◌, length, Some, None}
use Rattle.std.specs.Prelude.{pos, ◌==◌, if◌then◌else◌}
use Rattle.vf_arith.specs.Matrices.{entry}
use Rattle.vf_arith.proofs.matrix.without_edges.Given as goal

abbrev pub invariant-loop-k : goal.invariant-loop-k
invariant-loop-k l = (length l.matrix.items ≡ l.k) × ((j : ℕ) → j < l.k → entry l.matrix.items j ≡ (if j / l.size == j % l.size then Some (pos 0) else None))
