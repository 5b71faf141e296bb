use Rattle.std.proofs.Common.{◌≡◌, ℕ, ◌+◌, ◌<◌, IsTrue, IsFalse}
use Rattle.vf_arith.specs.Paths.{HasNegativeCycle}
use Rattle.vf_ground.specs.Held.{Agree}
use Rattle.vf_refuting.specs.Runs.{GoesOn}
use Rattle.vf_refuting.proofs.exchange.exchange_beside.Given as goal

abbrev pub invariant-loop-y : goal.invariant-loop-y
invariant-loop-y l = record {
  fine : HasNegativeCycle l.run.bounds.edges → ⊥;
  goes : GoesOn l.initial.run l.run;
  agree : IsFalse l.given → (k : ℕ) → k < l.y → Agree l.initial.run.classes.nodes l.initial.run.classes.merged l.initial.run.bounds.edges l.x k;
  same : IsFalse l.given → l.run ≡ l.initial.run;
  falls : IsTrue l.given → l.run.classes.weight + l.run.bounds.weight < l.initial.run.classes.weight + l.initial.run.bounds.weight;
}
