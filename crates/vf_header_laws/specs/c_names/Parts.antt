-- What of a unit a header shows: what stands in the files of which it consists.
use Rattle.std.specs.Prelude.{◌≡◌, ℕ, Bool, true, false, ◌||◌, if◌then◌else◌, nat_eq, List, [], ◌∷◌, filter, map, Option, Some, None, slice_get}
use Rattle.vf_declared.specs.declared.declaration.Declaration.{Declaration}
use Rattle.vf_declared.specs.declared.declaration.Fields.{Fields}
use Rattle.vf_declared.specs.declared.declaration.Structure.{Structure}
use Rattle.vf_declared.specs.declared.scope.Scope.{Scope}
use Rattle.vf_declared.specs.Scopes.{at_name, fields_in, has, is_among}

-- a file is one of those of which a header consists: itself, and those that it includes, directly or through others
abbrev pub is_part_of : Scope → ℕ → ℕ → Bool
is_part_of s header file = nat_eq header file || is_among (slice_get s.headers header) file

-- a file is not the unit's own
abbrev pub IsHeader : Scope → ℕ → Type 0
IsHeader s file = nat_eq file s.file ≡ false

-- each file of which a second header consists is one of which a first one consists
abbrev pub LiesWithin : Scope → ℕ → ℕ → Type 0
LiesWithin s header inner = (file : ℕ) → is_part_of s inner file ≡ true → is_part_of s header file ≡ true

-- one of some files is one of those of which a header consists
pub record StandsIn (s : Scope) (header : ℕ) (files : List ℕ) : Type 0 where
  pub file : ℕ
  pub among : has files file ≡ true
  pub part : is_part_of s header file ≡ true

-- the files in which something is declared that may not be declared
abbrev pub files_in : Option Declaration → List ℕ
files_in None = []
files_in (Some d) = d.files

-- the files in which a name of file level is declared
abbrev pub files_of_name : Scope → List ℕ → List ℕ
files_of_name s name = files_in (at_name s.names s.declarations name)

-- the files in which a struct is declared that may not be declared
abbrev pub structure_files_in : Option Structure → List ℕ
structure_files_in None = []
structure_files_in (Some x) = x.files

-- the files in which a tag is declared
abbrev pub files_of_tag : Scope → List ℕ → List ℕ
files_of_tag s tag = structure_files_in (at_name s.tags s.structures tag)

-- the file in which fields stand, if there are any
abbrev pub field_files_in : Option Fields → List ℕ
field_files_in None = []
field_files_in (Some fields) = fields.file ∷ []

-- the file in which the fields of a struct stand, if there are any
abbrev pub files_of_fields : Scope → ℕ → List ℕ
files_of_fields s n = field_files_in (fields_in (slice_get s.structures n))

-- of some files those of which a header consists
abbrev pub parts_among : Scope → ℕ → List ℕ → List ℕ
parts_among s header files = filter (is_part_of s header) files

-- a declaration as it stands in the files of which a header consists
abbrev pub declaration_within : Scope → ℕ → Declaration → Declaration
declaration_within s header d = record d { files = parts_among s header d.files }

-- fields, where they stand in a file of which a header consists
abbrev pub fields_within : Scope → ℕ → Option Fields → Option Fields
fields_within s header None = None
fields_within s header (Some fields) = if is_part_of s header fields.file then Some fields else None

-- a struct as it is declared in the files of which a header consists
abbrev pub structure_within : Scope → ℕ → Structure → Structure
structure_within s header x = record x { files = parts_among s header x.files; fields = fields_within s header x.fields }

-- what of a unit stands in the files of which a header consists: what stands elsewhere alone is declared in no file, and has no fields
abbrev pub part_of : ℕ → Scope → Scope
part_of header s = record s { declarations = map (declaration_within s header) s.declarations; structures = map (structure_within s header) s.structures; predicate_files = map (parts_among s header) s.predicate_files }
