use Rattle.std.proofs.Common.{◌≡◌, ℕ, ◌<◌, ◌⊎◌}
use Rattle.std.specs.Prelude.{slice_index_or}
use Rattle.vf_arith.specs.declared.journal.Saved.{Saved}
use Rattle.vf_arith.specs.Matrices.{distance}
use Rattle.vf_arith.specs.Histories.{IsSaved}
use Rattle.vf_arith.proofs.journal.restore.Given as goal

abbrev pub invariant-loop-s : goal.invariant-loop-s
invariant-loop-s l = record {
  put : (k : ℕ) (s : Saved) → k < l.s-index → slice_index_or l.saved k s ≡ s → distance l.size l.matrix s.x s.y ≡ s.distance;
  each : (i j : ℕ) → i < l.size → j < l.size → IsSaved l.saved i j ⊎ (distance l.size l.matrix i j ≡ distance l.size l.initial.matrix i j);
}
