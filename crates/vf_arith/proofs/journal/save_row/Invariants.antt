use Rattle.std.proofs.Common.{◌≡◌, ℕ, ◌<◌, ◌⊎◌, length}
use Rattle.std.specs.Prelude.{Contains, slice_index}
use Rattle.vf_arith.specs.declared.journal.Saved.{Saved}
use Rattle.vf_arith.specs.Matrices.{distance, entry, lesser, over_edge}
use Rattle.vf_arith.specs.Histories.{IsSaved, IsShortened}
use Rattle.vf_arith.proofs.journal.save_row.Given as goal

abbrev pub invariant-loop-y : goal.invariant-loop-y
invariant-loop-y l = record {
  kept : (s : Saved) → Contains l.initial.saved.items s → Contains l.saved.items s;
  only : (s : Saved) → Contains l.saved.items s → Contains l.initial.saved.items s ⊎ IsShortened (length l.before) l.matrix l.before l.most l.after s;
  looked : (k : ℕ) → k < l.y-index → IsSaved l.saved.items l.x (slice_index l.ends k) ⊎ (lesser (distance (length l.before) l.matrix l.x (slice_index l.ends k)) (over_edge (entry l.before l.x) l.most (entry l.after (slice_index l.ends k))) ≡ distance (length l.before) l.matrix l.x (slice_index l.ends k));
}
