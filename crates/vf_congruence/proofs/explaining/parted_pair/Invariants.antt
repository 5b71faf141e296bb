use Rattle.std.proofs.Common.{◌≡◌, ℕ, ◌<◌, Some, slice_index}
use Rattle.std.specs.Prelude.{slice_get}
use Rattle.vf_congruence.proofs.explaining.parted_pair.Given as goal

abbrev pub invariant-loop-i : goal.invariant-loop-i
invariant-loop-i l = (k x y : ℕ) → k < l.i → slice_get l.merged k ≡ Some (x, y) → slice_index l.labels x ≡ slice_index l.labels y
