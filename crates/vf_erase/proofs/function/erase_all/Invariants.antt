use Rattle.std.proofs.Common.{◌≡◌, map}
use Rattle.vf_cores.specs.Shown.{cores_shown}
use Rattle.vf_functions.specs.Erased.{erased_core}
use Rattle.vf_erase.specs.Shown.{plains_shown}
use Rattle.vf_erase.proofs.function.erase_all.Given as goal

-- those so far are the first without their annotations
abbrev pub invariant-loop-core : goal.invariant-loop-core
invariant-loop-core l = plains_shown l.plains.items ≡ map erased_core (cores_shown l.yielded)
