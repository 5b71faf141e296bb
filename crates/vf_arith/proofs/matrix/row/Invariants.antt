use Rattle.std.proofs.Common.{◌≡◌, ℕ, ◌<◌, length}
use Rattle.vf_arith.specs.Matrices.{entry, distance}
use Rattle.vf_arith.proofs.matrix.row.Given as goal

abbrev pub invariant-loop-k : goal.invariant-loop-k
invariant-loop-k l = (length l.out.items ≡ l.k) × ((j : ℕ) → j < l.k → entry l.out.items j ≡ distance l.size l.matrix l.y j)
