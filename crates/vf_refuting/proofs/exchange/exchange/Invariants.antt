use Rattle.std.proofs.Common.{◌+◌}
use Rattle.vf_arith.specs.Paths.{HasNegativeCycle}
use Rattle.vf_refuting.specs.Runs.{GoesOn}
use Rattle.vf_refuting.proofs.exchange.exchange.Given as goal

abbrev pub invariant-loop-run : goal.invariant-loop-run
invariant-loop-run l = record {
  fine : HasNegativeCycle l.run.bounds.edges → ⊥;
  goes : GoesOn l.initial.run l.run;
}

abbrev pub decreases-loop-run : goal.decreases-loop-run
decreases-loop-run l = l.run.classes.weight + l.run.bounds.weight
