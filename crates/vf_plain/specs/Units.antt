-- The functions and structs of a unit by what is declared in it.
use Rattle.std.specs.Prelude.{ℕ, ◌+◌, List, [], ◌∷◌, ◌++◌, map, option_map, option_to_list, Option, Some, None}
use Rattle.vf_tree.specs.Core.{FunctionTree, StructTree}
use Rattle.vf_core.specs.Shown.{text_or_empty}
use Rattle.vf_declared.specs.declared.declaration.Declaration.{Declaration}
use Rattle.vf_declared.specs.declared.declaration.Fields.{Fields}
use Rattle.vf_declared.specs.declared.declaration.Structure.{Structure}
use Rattle.vf_declared.specs.declared.scope.Scope.{Scope}
use Rattle.vf_declared.specs.Scopes.{at_index, at_name}
use Rattle.vf_steps.specs.Core.{Identities, identity_at, signature_tree, type_tree}
use Rattle.vf_functions.specs.Erased.{PlainTree}
use Rattle.vf_flow.specs.Steps.{steps_of}
use Rattle.vf_plain.specs.Identities.{identities_in, named_number}
use Rattle.vf_plain.specs.declared.names.Named.TheVariants as kinds
use Rattle.vf_program.specs.Units.{UnitTree}

-- the number of the function that a declaration declares
abbrev pub function_meant : Option Declaration → Option ℕ
function_meant None = None
function_meant (Some d) = named_number kinds.Function d.meaning

-- the number of the function of a name
abbrev pub function_number : Scope → List ℕ → Option ℕ
function_number s x = function_meant (at_name s.names s.declarations x)

-- a function that has a number
abbrev pub numbered_tree : Identities → Scope → PlainTree → Option ℕ → FunctionTree
numbered_tree d s f n = record {
  identity = text_or_empty (at_index d.functions n);
  signature = signature_tree d (at_index s.functions n);
  locals = map (type_tree d) f.locals;
  steps = steps_of d f.nodes;
  closing = f.closing;
}

-- a function in steps, of what is declared in its unit
abbrev pub function_tree : Identities → Scope → PlainTree → FunctionTree
function_tree d s f = numbered_tree d s f (function_number s f.name.text)

-- the struct with a number, which has fields
abbrev pub struct_tree : Identities → ℕ → Fields → StructTree
struct_tree d n x = record { identity = identity_at d.structures n; fields = map (type_tree d) x.types }

-- those of some structs that have fields, of which the first has a number
abbrev pub structs_from : Identities → ℕ → List Structure → List StructTree
structs_from d n [] = []
structs_from d n (x ∷ xs) = option_to_list (option_map (struct_tree d n) x.fields) ++ structs_from d (n + 1) xs

-- the functions and structs of a unit by what is declared in it, where files have these paths
abbrev pub unit_tree : List (List ℕ) → Scope → List PlainTree → UnitTree
unit_tree paths s fs = record {
  functions = map (function_tree (identities_in paths s) s) fs;
  structs = structs_from (identities_in paths s) 0 s.structures;
}
