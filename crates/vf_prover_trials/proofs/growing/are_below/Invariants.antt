use Rattle.std.proofs.Common.{ℕ, ◌<◌, slice_index_or}
use Rattle.vf_prover_trials.proofs.growing.are_below.Given as goal

abbrev pub invariant-loop-part : goal.invariant-loop-part
invariant-loop-part l = (k d : ℕ) → k < l.part-index → slice_index_or l.parts k d < l.n
