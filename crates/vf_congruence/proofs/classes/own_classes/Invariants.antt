use Rattle.std.proofs.Common.{◌≡◌, ℕ, ◌<◌, length, slice_index}
use Rattle.vf_congruence.proofs.classes.own_classes.Given as goal

abbrev pub invariant-loop-i : goal.invariant-loop-i
invariant-loop-i l = (length l.classes.items ≡ l.i) × ((k : ℕ) → k < l.i → slice_index l.classes.items k ≡ k)
