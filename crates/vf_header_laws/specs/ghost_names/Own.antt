-- What a header sees of annotations stands in the files of which it consists.
use Rattle.std.specs.Prelude.{◌≡◌, ℕ, true, List, [], Option, Some, None}
use Rattle.vf_declared.specs.declared.scope.Scope.{Scope}
use Rattle.vf_declared.specs.Scopes.{at_name, is_later_predicate}
use Rattle.vf_header_laws.specs.c_names.Parts.{files_of_name, IsHeader, StandsIn}
use Rattle.vf_header_laws.specs.ghost_names.Meaning.{ghost_at}

-- some files, or none
abbrev pub or_none : Option (List ℕ) → List ℕ
or_none None = []
or_none (Some files) = files

-- the files in which a predicate stands anywhere in the unit
abbrev pub files_of_predicate : Scope → List ℕ → List ℕ
files_of_predicate s name = or_none (at_name s.predicates s.predicate_files name)

-- a name that means something of annotations in a header, and that of a predicate which stands later in the unit and is seen from the header, stand in a file of which the header consists
pub record SeesItsOwnGhosts (s : Scope) (header : ℕ) : Type 0 where
  pub names : (name : List ℕ) (n : ℕ) → ghost_at s name header ≡ Some n → StandsIn s header (files_of_name s name)
  pub predicates : (name : List ℕ) → is_later_predicate s name header ≡ true → StandsIn s header (files_of_predicate s name)

-- each header of a unit sees what annotations declare in its own files alone
abbrev pub HeadersSeeTheirOwnGhosts : Type 0
HeadersSeeTheirOwnGhosts = (s : Scope) (header : ℕ) → IsHeader s header → SeesItsOwnGhosts s header
