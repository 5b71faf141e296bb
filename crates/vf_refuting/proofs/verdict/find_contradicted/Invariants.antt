use Rattle.std.proofs.Common.{ℕ, ◌<◌, slice_index_or}
use Rattle.vf_refute.specs.declared.steps.Fact.{Fact}
use Rattle.vf_ground.specs.Held.{IsContradicted}
use Rattle.vf_refuting.proofs.verdict.find_contradicted.Given as goal

abbrev pub invariant-loop-i : goal.invariant-loop-i
invariant-loop-i l = (k : ℕ) (d : Fact) → k < l.i → IsContradicted l.classes.nodes l.classes.merged l.bounds.edges (slice_index_or l.log.facts k d) → ⊥
