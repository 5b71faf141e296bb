use Rattle.std.proofs.Common.{◌≡◌, ◌++◌, drop}
use Rattle.vf_walk.specs.Items.{real_types}
use Rattle.vf_walk.proofs.parameters.real_types.Given as goal

-- the types so far and those of the locals that are left are those of all
abbrev pub invariant-loop-at : goal.invariant-loop-at
invariant-loop-at l = l.types ++ real_types (drop l.at l.fn.meanings) ≡ real_types l.fn.meanings
