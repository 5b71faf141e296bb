-- What names and tags mean at a place of a unit, and from which files.
use Rattle.std.specs.Prelude.{ℕ, Bool, false, ◌||◌, nat_eq, if◌then◌else◌, List, [], ◌∷◌, Option, Some, None, is_some, slice_get}
use Rattle.vf_names.specs.Names.{number_of}
use Rattle.vf_sorts.specs.Sorts.{Sort}
use Rattle.vf_declared.specs.declared.ctype.CType.{CType}
use Rattle.vf_declared.specs.declared.declaration.Meaning.{Meaning}
use Rattle.vf_declared.specs.declared.declaration.Declaration.{Declaration}
use Rattle.vf_declared.specs.declared.declaration.Signature.{Signature}
use Rattle.vf_declared.specs.declared.declaration.GhostDeclaration.{GhostDeclaration}
use Rattle.vf_declared.specs.declared.declaration.GhostSides.{GhostSides}
use Rattle.vf_declared.specs.declared.declaration.Datatype.{Datatype}
use Rattle.vf_declared.specs.declared.declaration.Structure.{Structure}
use Rattle.vf_declared.specs.declared.declaration.Fields.{Fields}
use Rattle.vf_declared.specs.declared.locals.Local.{Local}
use Rattle.vf_declared.specs.declared.locals.Locals.{Locals}
use Rattle.vf_declared.specs.declared.scope.Scope.{Scope}

-- a number is one of some
abbrev pub has : List ℕ → ℕ → Bool
has [] n = false
has (m ∷ ms) n = nat_eq m n || has ms n

-- the item at an index that may be none
abbrev pub at_index : {A : Type 0} → List A → Option ℕ → Option A
at_index xs None = None
at_index xs (Some n) = slice_get xs n

-- the item that stands beside a name
abbrev pub at_name : {A : Type 0} → List (List ℕ) → List A → List ℕ → Option A
at_name names items name = at_index items (number_of names name)

-- one of the files that a file includes is a file
abbrev pub is_among : Option (List ℕ) → ℕ → Bool
is_among None file = false
is_among (Some files) file = has files file

-- what is declared in a file is seen from another: from the unit's own, from itself, and from each that includes it, directly or through others
abbrev pub sees : Scope → ℕ → ℕ → Bool
sees s from file = nat_eq from s.file || (nat_eq from file || is_among (slice_get s.headers from) file)

-- one of some files is seen from a file
abbrev pub is_visible : Scope → ℕ → List ℕ → Bool
is_visible s from [] = false
is_visible s from (file ∷ files) = sees s from file || is_visible s from files

-- the local of a name among locals
abbrev pub local_in : Locals → List ℕ → Option Local
local_in l name = at_name l.names l.meanings name

-- the local of a name
abbrev pub local_of : Scope → List ℕ → Option Local
local_of s name = local_in s.locals name

-- what a declaration says in a file: nothing where it is not visible
abbrev pub declared_in : Scope → ℕ → Option Declaration → Option Meaning
declared_in s from None = None
declared_in s from (Some d) = if is_visible s from d.files then Some d.meaning else None

-- what a name of file level means in a file
abbrev pub declaration_of : Scope → List ℕ → ℕ → Option Meaning
declaration_of s name from = declared_in s from (at_name s.names s.declarations name)

-- a name of file level is declared, in a file that is seen or not
abbrev pub is_declared : Scope → List ℕ → Bool
is_declared s name = is_some (number_of s.names name)

-- one of the files in which a predicate stands is seen from a file
abbrev pub stands_in : Scope → ℕ → Option (List ℕ) → Bool
stands_in s from None = false
stands_in s from (Some files) = is_visible s from files

-- a name that is not declared yet is that of a predicate which stands later in the unit, and is seen from a file
abbrev pub is_later_predicate : Scope → List ℕ → ℕ → Bool
is_later_predicate s name from = if is_declared s name then false else stands_in s from (at_name s.predicates s.predicate_files name)

-- the number of a struct, where it is visible in a file
abbrev pub visible_number : Scope → ℕ → ℕ → Option Structure → Option ℕ
visible_number s from n None = None
visible_number s from n (Some x) = if is_visible s from x.files then Some n else None

-- the same of a number that may be none
abbrev pub visible_tag : Scope → ℕ → Option ℕ → Option ℕ
visible_tag s from None = None
visible_tag s from (Some n) = visible_number s from n (slice_get s.structures n)

-- the number of a tag that is seen from a file
abbrev pub tag_of : Scope → List ℕ → ℕ → Option ℕ
tag_of s tag from = visible_tag s from (number_of s.tags tag)

-- the fields of a struct, where they are declared
abbrev pub fields_in : Option Structure → Option Fields
fields_in None = None
fields_in (Some x) = x.fields

-- the fields of a struct are declared
abbrev pub has_fields : Scope → ℕ → Bool
has_fields s n = is_some (fields_in (slice_get s.structures n))

-- the type of a field among fields that are seen from a file
abbrev pub field_in : Scope → ℕ → List ℕ → Option Fields → Option CType
field_in s from name None = None
field_in s from name (Some fields) = if sees s from fields.file then at_name fields.names fields.types name else None

-- the type of a field of a struct whose fields are seen from a file
abbrev pub field_of : Scope → ℕ → List ℕ → ℕ → Option CType
field_of s n name from = field_in s from name (fields_in (slice_get s.structures n))

-- what a function gives and takes
abbrev pub signature_of : Scope → ℕ → Option Signature
signature_of s n = slice_get s.functions n

-- what the functions of a function type give and take
abbrev pub function_type_of : Scope → ℕ → Option Signature
function_type_of s n = slice_get s.function_types n

-- what annotations declare by a number
abbrev pub ghost_of : Scope → ℕ → Option GhostDeclaration
ghost_of s n = slice_get s.ghosts n

-- what a predicate, a lemma or a family with a number is declared with so far
abbrev pub sides_of_ghost : Scope → ℕ → Option GhostSides
sides_of_ghost s n = slice_get s.ghost_sides n

-- a datatype by its number
abbrev pub datatype_of : Scope → ℕ → Option Datatype
datatype_of s n = slice_get s.datatypes n

-- the sorts of the arguments of a predicate that stands later in the unit and is seen from a file
abbrev pub later_predicate : Scope → List ℕ → ℕ → Option (List Sort)
later_predicate s name from = if is_later_predicate s name from then at_name s.predicates s.predicate_sorts name else None
