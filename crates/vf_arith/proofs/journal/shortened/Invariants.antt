use Rattle.std.proofs.Common.{◌≡◌, ℕ, ◌<◌, ◌⊎◌, length}
use Rattle.std.specs.Prelude.{Contains}
use Rattle.vf_arith.specs.declared.journal.Saved.{Saved}
use Rattle.vf_arith.specs.Matrices.{distance, entry, lesser, over_edge}
use Rattle.vf_arith.specs.Histories.{IsSaved, IsShortened}
use Rattle.vf_arith.proofs.journal.shortened.Given as goal

abbrev pub invariant-loop-x : goal.invariant-loop-x
invariant-loop-x l = record {
  only : (s : Saved) → Contains l.saved.items s → IsShortened (length l.before) l.matrix l.before l.most l.after s;
  looked : (i j : ℕ) → i < l.x → j < length l.before → IsSaved l.saved.items i j ⊎ (lesser (distance (length l.before) l.matrix i j) (over_edge (entry l.before i) l.most (entry l.after j)) ≡ distance (length l.before) l.matrix i j);
}
