use Rattle.std.proofs.Common.{◌≡◌}
use Rattle.vf_run.specs.Machines.{machine_program, machine_state}
use Rattle.vf_schedule.specs.rounds.Taken.{Stays}
use Rattle.vf_schedule.proofs.rounds.Rounds.{NoneBefore}
use Rattle.vf_schedule.proofs.rounds.turning.next_thread.Given as goal

abbrev pub invariant-loop-places : goal.invariant-loop-places
invariant-loop-places l = record {
  same : machine_program l.machine ≡ machine_program l.fn.machine;
  stays : Stays (machine_state l.fn.machine) l.fn.log.items (machine_state l.machine) l.log.items;
  none : NoneBefore (machine_program l.fn.machine) (machine_state l.fn.machine) l.thread l.count l.places;
}
