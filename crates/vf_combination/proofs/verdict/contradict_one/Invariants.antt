use Rattle.std.proofs.Common.{ℕ, ◌<◌, slice_index_or}
use Rattle.vf_refute.specs.declared.steps.Fact.{Fact}
use Rattle.vf_ground.specs.Held.{IsContradicted}
use Rattle.vf_combination.proofs.verdict.contradict_one.Given as goal

abbrev pub invariant-loop-fact : goal.invariant-loop-fact
invariant-loop-fact l = (k : ℕ) (d : Fact) → k < l.fact-index → IsContradicted l.classes.nodes l.classes.merged l.bounds.edges (slice_index_or l.facts k d) → ⊥
