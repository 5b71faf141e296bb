use Rattle.std.proofs.Common.{◌≡◌, ◌++◌, map, take}
use Rattle.vf_core.specs.Shown.{function_of, struct_of}
use Rattle.vf_program.proofs.assembly.add_unit.Given as goal

-- the first functions are there
abbrev pub invariant-loop-function : goal.invariant-loop-function
invariant-loop-function l =
    (map (function_of l.renaming.all.now) l.parts.functions ≡ map (function_of l.renaming.all.now) l.initial.parts.functions ++ map (function_of l.renaming.own.now) (take l.function-index l.function-items))
    × (l.parts.structs.items ≡ l.initial.parts.structs.items)

-- all functions and the first structs are there
abbrev pub invariant-loop-body : goal.invariant-loop-body
invariant-loop-body l =
    (map (function_of l.renaming.all.now) l.parts.functions ≡ map (function_of l.renaming.all.now) l.fn.parts.functions ++ map (function_of l.renaming.own.now) l.unit.functions)
    × (map (struct_of l.renaming.all.now) l.parts.structs.items ≡ map (struct_of l.renaming.all.now) l.fn.parts.structs.items ++ map (struct_of l.renaming.own.now) (take l.body-index l.body-items))
