use Rattle.std.proofs.Common.{◌≡◌, ◌≤◌, drop, length, map, take}
use Rattle.std.specs.List.{flat_map}
use Rattle.vf_core.specs.Shown.{function_of, struct_of}
use Rattle.vf_program.specs.Indexes.{names_of}
use Rattle.vf_program.specs.Units.{unit_of}
use Rattle.vf_program.proofs.assembly.collect.Given as goal

-- the units so far are there, and the names of those that are left stand behind theirs
abbrev pub invariant-loop-unit : goal.invariant-loop-unit
invariant-loop-unit l =
    (map (function_of l.all) l.parts.functions ≡ flat_map (λ u. (unit_of u).functions) (take l.unit-index l.units))
    × (map (struct_of l.all) l.parts.structs.items ≡ flat_map (λ u. (unit_of u).structs) (take l.unit-index l.units))
    × (drop l.first l.all ≡ names_of (drop l.unit-index l.units))
    × (l.first ≤ length l.all)
