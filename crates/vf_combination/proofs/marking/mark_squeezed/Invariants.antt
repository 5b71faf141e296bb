use Rattle.std.proofs.Common.{◌≡◌, ℕ, ◌<◌, slice_index_or}
use Rattle.vf_arith.specs.declared.journal.Saved.{Saved}
use Rattle.vf_combination.specs.Exchanged.{IsUnmarked, IsSqueezed}
use Rattle.vf_combination.proofs.marking.mark_squeezed.Given as goal

abbrev pub invariant-loop-s : goal.invariant-loop-s
invariant-loop-s l = (x : ℕ) → IsUnmarked l.marks x → IsUnmarked l.initial.marks x × ((k : ℕ) (d : Saved) → k < l.s-index → IsSqueezed l.bounds (slice_index_or l.saved k d) → (slice_index_or l.saved k d).x ≡ x → ⊥)
