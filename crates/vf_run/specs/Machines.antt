-- What a machine stands for.
use Rattle.vf_tree.specs.Core.{ProgramTree}
use Rattle.vf_model.specs.State.{State}
use Rattle.vf_core.specs.Shown.{program_of}
use Rattle.vf_engine.specs.States.{state_of}
use Rattle.vf_run.specs.declared.machine.Machine.{Machine}

-- the program that it runs
abbrev pub machine_program : Machine → ProgramTree
machine_program m = program_of m.program.unit

-- the state that it is in
abbrev pub machine_state : Machine → State
machine_state m = state_of m.program.unit.names m.running
