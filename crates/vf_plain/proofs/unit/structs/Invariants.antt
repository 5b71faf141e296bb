use Rattle.std.proofs.Common.{◌≡◌, ◌++◌, drop, map}
use Rattle.vf_core.specs.Shown.{struct_of}
use Rattle.vf_flow.specs.Named.{naming_of}
use Rattle.vf_plain.specs.Units.{structs_from}
use Rattle.vf_plain.proofs.unit.structs.Given as goal

-- the structs so far, and those that are left, are all
abbrev pub invariant-loop-number : goal.invariant-loop-number
invariant-loop-number l = map (struct_of l.naming.names.now) l.all ++ structs_from (naming_of l.naming) l.number (drop l.number l.scope.structures) ≡ structs_from (naming_of l.naming) 0 l.scope.structures
