use Rattle.std.proofs.Common.{ℕ, ◌<◌}
use Rattle.std.specs.Prelude.{pos}
use Rattle.vf_table.specs.Tables.{IsNumber}
use Rattle.vf_ground.specs.Held.{HasBoth}
use Rattle.vf_refuting.specs.Runs.{GoesOn}
use Rattle.vf_refuting.proofs.gather.add_number.Given as goal

abbrev pub invariant-loop-zero : goal.invariant-loop-zero
invariant-loop-zero l = record {
  goes : GoesOn l.initial.run l.run;
  has : (o : ℕ) → o < l.zero → IsNumber l.initial.run.log.nodes o (pos 0) → HasBoth l.run.bounds.edges l.a o l.number;
}
