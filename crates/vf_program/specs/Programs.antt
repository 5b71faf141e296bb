-- One program of several units.
use Rattle.std.specs.Prelude.{ℕ, Bool, if◌then◌else◌, List, [], ◌∷◌, ◌++◌, length, unwrap_or}
use Rattle.std.specs.List.{flat_map, list_any, position}
use Rattle.vf_tree.specs.Core.{Identity, FunctionTree, StructTree, ProgramTree}
use Rattle.vf_model.specs.Values.{same_identity}
use Rattle.vf_program.specs.Units.{UnitTree}

-- one of some structs has an identity
abbrev pub has_struct : List StructTree → Identity → Bool
has_struct ss g = list_any (λ (s : StructTree). same_identity s.identity g) ss

-- the structs that are left of some where others stand before them: of each identity the first
abbrev pub each_once : List StructTree → List StructTree → List StructTree
each_once before [] = []
each_once before (s ∷ ss) = if has_struct before s.identity then each_once before ss else s ∷ each_once (before ++ s ∷ []) ss

-- the number of the first function of an identity; past all functions where there is none
abbrev pub number_of_main : List FunctionTree → Identity → ℕ
number_of_main fs g = unwrap_or (position (λ (f : FunctionTree). same_identity f.identity g) fs) (length fs)

-- the program of these functions and structs that begins with the function of an identity
abbrev pub program_beginning : List FunctionTree → List StructTree → Identity → ProgramTree
program_beginning fs ss g = record { functions = fs; structs = each_once [] ss; main = number_of_main fs g }

-- the program of units, which begins with the function of an identity: the functions of all units in order, and their structs, each once in the order of its first mention. What is called goes by identity, so that calls are joined
abbrev pub program_of_units : List UnitTree → Identity → ProgramTree
program_of_units us g = program_beginning (flat_map (λ (u : UnitTree). u.functions) us) (flat_map (λ (u : UnitTree). u.structs) us) g
