use Rattle.std.proofs.Common.{◌≡◌, ℕ, ◌<◌, ◌⊎◌, length}
use Rattle.std.specs.Prelude.{slice_index_or}
use Rattle.vf_arith.specs.declared.journal.Saved.{Saved}
use Rattle.vf_arith.specs.Matrices.{distance, entry, over_edge}
use Rattle.vf_arith.specs.Histories.{IsSaved}
use Rattle.vf_arith.proofs.journal.shorten.Given as goal

abbrev pub invariant-loop-s : goal.invariant-loop-s
invariant-loop-s l = record {
  put : (k : ℕ) (s : Saved) → k < l.s-index → slice_index_or l.saved k s ≡ s → distance (length l.before) l.matrix s.x s.y ≡ over_edge (entry l.before s.x) l.most (entry l.after s.y);
  each : (i j : ℕ) → i < length l.before → j < length l.before → IsSaved l.saved i j ⊎ (distance (length l.before) l.matrix i j ≡ distance (length l.before) l.initial.matrix i j);
}
