use Rattle.std.proofs.Common.{◌≡◌, take}
use Rattle.vf_program.specs.Indexes.{names_of}
use Rattle.vf_program.proofs.assembly.all_names.Given as goal

-- those of the units so far
abbrev pub invariant-loop-unit : goal.invariant-loop-unit
invariant-loop-unit l = l.names ≡ names_of (take l.unit-index l.units)
