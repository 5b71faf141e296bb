use Rattle.std.proofs.Common.{ℕ, ◌<◌, length}
use Rattle.vf_ground.specs.Held.{Clash}
use Rattle.vf_refuting.proofs.verdict.find_clash.Given as goal

abbrev pub invariant-loop-x : goal.invariant-loop-x
invariant-loop-x l = (j k : ℕ) → j < l.x → k < length l.classes.nodes → Clash l.classes.nodes l.classes.merged j k → ⊥
