use Rattle.std.proofs.Common.{ℕ, ◌<◌, slice_index_or}
use Rattle.vf_refute.specs.declared.steps.Fact.{Fact}
use Rattle.vf_ground.specs.Held.{HasFact}
use Rattle.vf_refuting.specs.Runs.{GoesOn}
use Rattle.vf_refuting.proofs.gather.add_facts.Given as goal

abbrev pub invariant-loop-i : goal.invariant-loop-i
invariant-loop-i l = record {
  goes : GoesOn l.initial.run l.run;
  has : (k : ℕ) (d : Fact) → k < l.i → HasFact l.run.classes.merged l.run.bounds.edges (slice_index_or l.initial.run.log.facts k d);
}
