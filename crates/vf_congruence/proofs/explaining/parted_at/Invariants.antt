use Rattle.std.proofs.Common.{◌≡◌, ℕ, ◌<◌, slice_index}
use Rattle.vf_congruence.proofs.explaining.parted_at.Given as goal

abbrev pub invariant-loop-i : goal.invariant-loop-i
invariant-loop-i l = (k : ℕ) → k < l.i → slice_index l.labels (slice_index l.xs k) ≡ slice_index l.labels (slice_index l.ys k)
