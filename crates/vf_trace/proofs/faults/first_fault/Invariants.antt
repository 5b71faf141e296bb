use Rattle.std.proofs.Common.{ℕ, ◌<◌}
use Rattle.vf_base.specs.declared.place.Place.{Place}
use Rattle.vf_model.specs.declared.words.FaultKind.{FaultKind}
use Rattle.vf_model.specs.Runs.{Fault}
use Rattle.vf_run.specs.Machines.{machine_program, machine_state}
use Rattle.vf_trace.proofs.faults.first_fault.Given as goal

abbrev pub invariant-loop-thread : goal.invariant-loop-thread
invariant-loop-thread l = (t : ℕ) (kind : FaultKind) (place : Place) → Fault (machine_program l.machine) (machine_state l.machine) t kind place → t < l.thread → ⊥
