use Rattle.std.proofs.Common.{◌≡◌, ℕ, ◌+◌, ◌<◌, length, IsTrue, IsFalse}
use Rattle.vf_arith.specs.Paths.{HasNegativeCycle}
use Rattle.vf_ground.specs.Held.{Agree}
use Rattle.vf_refuting.specs.Runs.{GoesOn}
use Rattle.vf_refuting.proofs.exchange.exchange_once.Given as goal

abbrev pub invariant-loop-x : goal.invariant-loop-x
invariant-loop-x l = record {
  fine : HasNegativeCycle l.run.bounds.edges → ⊥;
  goes : GoesOn l.initial.run l.run;
  agree : IsFalse l.given → (j k : ℕ) → j < l.x → k < length l.initial.run.classes.nodes → Agree l.initial.run.classes.nodes l.initial.run.classes.merged l.initial.run.bounds.edges j k;
  same : IsFalse l.given → l.run ≡ l.initial.run;
  falls : IsTrue l.given → l.run.classes.weight + l.run.bounds.weight < l.initial.run.classes.weight + l.initial.run.bounds.weight;
}
