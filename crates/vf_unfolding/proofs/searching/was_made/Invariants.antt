use Rattle.std.proofs.Common.{◌≡◌, ℕ, ◌<◌, ◌≤◌, slice_index_or}
use Rattle.vf_question.specs.declared.unfolding.Unfolding.{Unfolding}
use Rattle.vf_unfolding.proofs.searching.was_made.Given as goal

abbrev pub invariant-loop-unfolding : goal.invariant-loop-unfolding
invariant-loop-unfolding l = (k : ℕ) (d : Unfolding) → k < l.unfolding-index → ((slice_index_or l.made k d).application ≡ l.application) × ((slice_index_or l.made k d).body ≡ l.body) × ((slice_index_or l.made k d).depth ≤ l.depth) → ⊥
