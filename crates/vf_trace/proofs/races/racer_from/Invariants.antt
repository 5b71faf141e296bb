use Rattle.std.proofs.Common.{ℕ, ◌<◌, ◌≤◌}
use Rattle.vf_base.specs.declared.place.Place.{Place}
use Rattle.vf_run.specs.Machines.{machine_program, machine_state}
use Rattle.vf_looks.specs.Looks.{touch_of}
use Rattle.vf_trace.specs.Touching.{ClashesAt}
use Rattle.vf_trace.proofs.races.racer_from.Given as goal

abbrev pub invariant-loop-thread : goal.invariant-loop-thread
invariant-loop-thread l =
    (t : ℕ) (place : Place) → l.from ≤ t → t < l.thread → ClashesAt (machine_program l.machine) (machine_state l.machine) (touch_of l.touch) t place → ⊥
