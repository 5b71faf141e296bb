use Rattle.std.proofs.Common.{◌≡◌, ℕ, ◌<◌, slice_index_or}
use Rattle.vf_growing.specs.declared.journal.Moved.{Moved}
use Rattle.vf_combination.specs.Exchanged.{IsUnmarked}
use Rattle.vf_combination.proofs.marking.mark_moved.Given as goal

abbrev pub invariant-loop-m : goal.invariant-loop-m
invariant-loop-m l = (x : ℕ) → IsUnmarked l.marks x → IsUnmarked l.initial.marks x × ((k : ℕ) (d : Moved) → k < l.m-index → (slice_index_or l.moved k d).term ≡ x → ⊥)
