use Rattle.vf_run.specs.Machines.{machine_program, machine_state}
use Rattle.vf_trace.proofs.Racing.{NoRaceBelow}
use Rattle.vf_trace.proofs.races.first_race.Given as goal

abbrev pub invariant-loop-first : goal.invariant-loop-first
invariant-loop-first l = NoRaceBelow (machine_program l.machine) (machine_state l.machine) l.first
