use Rattle.std.proofs.Common.{◌≡◌, ℕ, ◌<◌, ◌⊎◌, List, length, slice_index}
use Rattle.vf_growing.specs.Histories.{AreMoved}
use Rattle.vf_growing.proofs.Steps.{IsMovedFrom}
use Rattle.vf_growing.proofs.journal.restore.Given as goal

abbrev pub invariant-loop-m : goal.invariant-loop-m
invariant-loop-m l = (before : List ℕ) → AreMoved before l.moved l.initial.classes → (k : ℕ) → k < length before → IsMovedFrom l.m-index l.moved k ⊎ (slice_index l.classes k ≡ slice_index before k)
