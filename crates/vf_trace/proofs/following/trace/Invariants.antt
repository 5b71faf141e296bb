use Rattle.std.proofs.Common.{◌≡◌}
use Rattle.vf_run.specs.Machines.{machine_program, machine_state}
use Rattle.vf_trace.specs.Traces.{ComesTo}
use Rattle.vf_trace.proofs.following.trace.Given as goal

abbrev pub invariant-loop-after : goal.invariant-loop-after
invariant-loop-after l = record {
  same : machine_program l.machine ≡ machine_program l.fn.machine;
  comes : ComesTo (machine_program l.fn.machine) (machine_state l.fn.machine) l.events l.after (machine_state l.machine);
}
