use Rattle.std.proofs.Common.{◌≡◌}
use Rattle.vf_run.specs.Machines.{machine_program, machine_state}
use Rattle.vf_try.specs.Runs.{Follows}
use Rattle.vf_try.proofs.program.follow.Given as goal

-- the events so far were followed
abbrev pub invariant-loop-at : goal.invariant-loop-at
invariant-loop-at l = record {
  same : machine_program l.machine ≡ machine_program l.fn.machine;
  follows : Follows (machine_program l.fn.machine) (machine_state l.fn.machine) l.events l.at (machine_state l.machine);
}
