-- Units in the core of whole programs.
use Rattle.std.specs.Prelude.{List, map}
use Rattle.vf_tree.specs.Core.{FunctionTree, StructTree}
use Rattle.vf_core.specs.Shown.{function_of, struct_of}
use Rattle.vf_program.specs.declared.unit.PlainUnit.{PlainUnit}

-- a unit in the core of whole programs: its functions that have bodies, and its structs that have fields
pub record UnitTree : Type 0 where
  pub functions : List FunctionTree
  pub structs : List StructTree

-- the unit that the code has
abbrev pub unit_of : PlainUnit → UnitTree
unit_of u = record { functions = map (function_of u.names) u.functions; structs = map (struct_of u.names) u.structs }
