use Rattle.std.proofs.Common.{ℕ, ◌<◌}
use Rattle.vf_growing.specs.Steps.{IsTermOf}
use Rattle.vf_growing.proofs.growing.find.Given as goal

abbrev pub invariant-loop-term : goal.invariant-loop-term
invariant-loop-term l = (k : ℕ) → k < l.term → IsTermOf l.nodes k l.node → ⊥
