use Rattle.std.proofs.Common.{ℕ, ◌<◌}
use Rattle.vf_ground.specs.Held.{HasTerm}
use Rattle.vf_refuting.specs.Runs.{GoesOn}
use Rattle.vf_refuting.proofs.gather.add_terms.Given as goal

abbrev pub invariant-loop-a : goal.invariant-loop-a
invariant-loop-a l = record {
  goes : GoesOn l.initial.run l.run;
  has : (k : ℕ) → k < l.a → HasTerm l.initial.run.log.nodes l.run.bounds.edges k;
}
