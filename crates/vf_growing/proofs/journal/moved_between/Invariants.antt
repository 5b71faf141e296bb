use Rattle.std.proofs.Common.{◌≡◌, ℕ, ◌<◌, ◌⊎◌, length, slice_index}
use Rattle.std.specs.Prelude.{Contains}
use Rattle.vf_growing.specs.declared.journal.Moved.{Moved}
use Rattle.vf_growing.specs.Histories.{IsMoved}
use Rattle.vf_growing.proofs.journal.moved_between.Given as goal

abbrev pub invariant-loop-term : goal.invariant-loop-term
invariant-loop-term l = record {
  old : (m : Moved) → Contains l.moved.items m → (m.term < length l.before) × (m.class ≡ slice_index l.before m.term);
  others : (k : ℕ) → k < l.term → IsMoved l.moved.items k ⊎ (slice_index l.after k ≡ slice_index l.before k);
}
