use Rattle.std.proofs.Common.{◌≡◌}
use Rattle.vf_run.specs.Machines.{machine_program, machine_state}
use Rattle.vf_schedule.proofs.rounds.Logs.{Turned}
use Rattle.vf_schedule.proofs.rounds.turning.turns.Given as goal

abbrev pub invariant-loop : goal.invariant-loop
invariant-loop l = record {
  same : machine_program l.machine ≡ machine_program l.fn.machine;
  turned : Turned (machine_program l.fn.machine) l.quantum (machine_state l.fn.machine) l.fn.log.items l.steps l.counter (machine_state l.machine) l.log.items l.turn.thread l.turn.left;
}
