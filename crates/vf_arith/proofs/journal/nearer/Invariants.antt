use Rattle.std.proofs.Common.{◌≡◌, ℕ, ◌<◌, ◌⊎◌, length, Some}
use Rattle.std.specs.Prelude.{pos, Contains}
use Rattle.vf_arith.specs.Matrices.{distance, entry, lesser, over_edge}
use Rattle.vf_arith.proofs.journal.nearer.Given as goal

abbrev pub invariant-loop-y : goal.invariant-loop-y
invariant-loop-y l = record {
  below : (y : ℕ) → Contains l.ends.items y → y < length l.after;
  others : (y : ℕ) → y < l.y → Contains l.ends.items y ⊎ (lesser (distance (length l.after) l.matrix l.from y) (over_edge (Some (pos 0)) l.most (entry l.after y)) ≡ distance (length l.after) l.matrix l.from y);
}
