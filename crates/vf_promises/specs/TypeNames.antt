-- What the tags, function types and datatypes of a unit are called, by their numbers.
use Rattle.std.specs.Prelude.{ℕ, zero, suc, Bool, false, nat_eq, if◌then◌else◌, List, [], ◌∷◌, length, Option, Some, None, slice_get}
use Rattle.vf_declared.specs.declared.declaration.Declaration.{Declaration}
use Rattle.vf_declared.specs.declared.declaration.GhostDeclaration.{GhostDeclaration}
use Rattle.vf_declared.specs.declared.declaration.GhostDeclaration.TheVariants as ghosts
use Rattle.vf_declared.specs.declared.declaration.Meaning.{Meaning}
use Rattle.vf_declared.specs.declared.declaration.Meaning.TheVariants as meanings
use Rattle.vf_declared.specs.declared.scope.Scope.{Scope}
use Rattle.vf_promises.specs.declared.type_names.Named.{Named}
use Rattle.vf_promises.specs.declared.type_names.Named.TheVariants as kinds
use Rattle.vf_promises.specs.declared.type_names.TypeNames.{TypeNames}

-- the number of the datatype that annotations declare, among the datatypes of the unit
abbrev pub datatype_number : Option GhostDeclaration → Option ℕ
datatype_number (Some (ghosts.Datatype n)) = Some n
datatype_number g = None

-- the number of the function type, or of the datatype, that a name means
abbrev pub named_number : Scope → Named → Meaning → Option ℕ
named_number s kinds.FunctionType (meanings.FunctionType n) = Some n
named_number s kinds.Datatype (meanings.Ghost n) = datatype_number (slice_get s.ghosts n)
named_number s k m = None

-- a number is the one that may be there
abbrev pub is_number : Option ℕ → ℕ → Bool
is_number None n = false
is_number (Some k) n = nat_eq n k

-- what has a number is called as the first declared name that means it, and by no bytes where none does
abbrev pub name_with : Scope → Named → List (List ℕ) → List Declaration → ℕ → List ℕ
name_with s k [] ds n = []
name_with s k (x ∷ xs) [] n = []
name_with s k (x ∷ xs) (d ∷ ds) n = if is_number (named_number s k d.meaning) n then x else name_with s k xs ds n

-- the values of a function at so many numbers, from one on
abbrev pub values_from : {A : Type 0} → (ℕ → A) → ℕ → ℕ → List A
values_from f n zero = []
values_from f n (suc count) = f n ∷ values_from f (suc n) count

-- what has the first so many numbers is called, by declared names
abbrev pub names_behind : Scope → Named → List (List ℕ) → List Declaration → ℕ → List (List ℕ)
names_behind s k xs ds count = values_from (name_with s k xs ds) zero count

-- what the function types or the datatypes of a unit are called, of which there are so many
abbrev pub names_named : Scope → Named → ℕ → List (List ℕ)
names_named s k count = names_behind s k s.names s.declarations count

-- what the tags, function types and datatypes of a unit are called
abbrev pub type_names : Scope → TypeNames
type_names s = record {
  tags = s.tags;
  function_types = names_named s kinds.FunctionType (length s.function_types);
  datatypes = names_named s kinds.Datatype (length s.datatypes);
}
