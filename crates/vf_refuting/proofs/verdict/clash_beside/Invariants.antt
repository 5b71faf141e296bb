use Rattle.std.proofs.Common.{ℕ, ◌<◌}
use Rattle.vf_ground.specs.Held.{Clash}
use Rattle.vf_refuting.proofs.verdict.clash_beside.Given as goal

abbrev pub invariant-loop-y : goal.invariant-loop-y
invariant-loop-y l = (k : ℕ) → k < l.y → Clash l.classes.nodes l.classes.merged l.x k → ⊥
