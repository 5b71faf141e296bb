-- The identities of what a unit declares, by its numbers in the unit.
use Rattle.std.specs.Prelude.{ℕ, zero, suc, Bool, false, nat_eq, if◌then◌else◌, List, [], ◌∷◌, length, map, Option, Some, None}
use Rattle.vf_tree.specs.Core.{Identity}
use Rattle.vf_snapshot.specs.declared.held.Held.{Held}
use Rattle.vf_snapshot.specs.Holdings.{Holdings}
use Rattle.vf_declared.specs.declared.declaration.Declaration.{Declaration}
use Rattle.vf_declared.specs.declared.declaration.Meaning.{Meaning}
use Rattle.vf_declared.specs.declared.declaration.Meaning.TheVariants as meanings
use Rattle.vf_declared.specs.declared.declaration.Structure.{Structure}
use Rattle.vf_declared.specs.declared.scope.Scope.{Scope}
use Rattle.vf_terms.specs.Named.{identity_of}
use Rattle.vf_steps.specs.Core.{Identities}
use Rattle.vf_plain.specs.declared.names.Named.{Named}
use Rattle.vf_plain.specs.declared.names.Named.TheVariants as kinds

-- the paths of files, by their numbers
abbrev pub paths_of : Holdings → List (List ℕ)
paths_of held = map (λ (e : List ℕ × Held). e.0) held

-- the number of the function, or of the function type, that a name means
abbrev pub named_number : Named → Meaning → Option ℕ
named_number kinds.Function (meanings.Function n) = Some n
named_number kinds.FunctionType (meanings.FunctionType n) = Some n
named_number k m = None

-- a number is the one that may be there
abbrev pub is_number : Option ℕ → ℕ → Bool
is_number None n = false
is_number (Some k) n = nat_eq n k

-- the identity of what has a number: that of the first declared name which means it, and the empty one where none does
abbrev pub identity_with : Named → List (List ℕ) → List (List ℕ) → List Declaration → ℕ → Identity
identity_with k paths [] ds n = []
identity_with k paths (x ∷ xs) [] n = []
identity_with k paths (x ∷ xs) (d ∷ ds) n = if is_number (named_number k d.meaning) n then identity_of paths d.files x else identity_with k paths xs ds n

-- the values of a function at so many numbers, from one on
abbrev pub values_from : {A : Type 0} → (ℕ → A) → ℕ → ℕ → List A
values_from f n zero = []
values_from f n (suc count) = f n ∷ values_from f (suc n) count

-- the identities of what has the first so many numbers, by declared names
abbrev pub identities_behind : Named → List (List ℕ) → List (List ℕ) → List Declaration → ℕ → List Identity
identities_behind k paths xs ds count = values_from (identity_with k paths xs ds) zero count

-- the identities of a unit's functions or function types, of which there are so many, by their numbers
abbrev pub identities_named : Named → List (List ℕ) → Scope → ℕ → List Identity
identities_named k paths s count = identities_behind k paths s.names s.declarations count

-- the identities of structs by their tags and the files that declare them
abbrev pub tag_identities : List (List ℕ) → List (List ℕ) → List Structure → List Identity
tag_identities paths (x ∷ xs) (s ∷ ss) = identity_of paths s.files x ∷ tag_identities paths xs ss
tag_identities paths xs ss = []

-- what the functions, structs and function types of a unit are called
abbrev pub identities_in : List (List ℕ) → Scope → Identities
identities_in paths s = record {
  functions = identities_named kinds.Function paths s (length s.functions);
  structures = tag_identities paths s.tags s.structures;
  function_types = identities_named kinds.FunctionType paths s (length s.function_types);
  signatures = s.function_types;
}
