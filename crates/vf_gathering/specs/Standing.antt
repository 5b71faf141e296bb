-- In which files names stand.
use Rattle.std.specs.Prelude.{◌≡◌, ℕ, if◌then◌else◌, List, [], ◌∷◌, ◌++◌, length, nat_lt, slice_get, slice_set, Option, Some, None}
use Rattle.std.specs.Str.{bytes_eq}
use Rattle.vf_names.specs.Names.{number_of}
use Rattle.vf_declared.specs.Scopes.{at_name}
use Rattle.vf_syntax.specs.declared.written.Name.{Name}
use Rattle.vf_datatypes.specs.declared.stated.Stated.{Stated}

-- the files in which a name stands, of some names at their places, in their order
abbrev pub files_of : List ℕ → List Name → List ℕ
files_of x [] = []
files_of x (n ∷ ns) = if bytes_eq x n.text then n.place.file ∷ files_of x ns else files_of x ns

-- some files, or none at all
abbrev pub any_files : List ℕ → Option (List ℕ)
any_files [] = None
any_files (f ∷ fs) = Some (f ∷ fs)

-- a table tells of each name in which files it stands, of some names at their places
pub record Tells (ns : List Name) (d : Stated) : Type 0 where
  pub beside : length d.names ≡ length d.files
  pub files : (x : List ℕ) → at_name d.names d.files x ≡ any_files (files_of x ns)

-- no names
abbrev pub no_names : Stated
no_names = record { names = []; files = [] }

-- files that may be there, or none
abbrev pub or_none : Option (List ℕ) → List ℕ
or_none None = []
or_none (Some fs) = fs

-- a name with a number stands in one more file
abbrev pub with_file : Stated → ℕ → ℕ → Stated
with_file d k f = if nat_lt k (length d.files) then (record { names = d.names; files = slice_set d.files k (or_none (slice_get d.files k) ++ f ∷ []) }) else d

-- a name that may have a number stands in one more file
abbrev pub with_number : Stated → Name → Option ℕ → Stated
with_number d n None = record { names = d.names ++ n.text ∷ []; files = d.files ++ (n.place.file ∷ []) ∷ [] }
with_number d n (Some k) = with_file d k n.place.file

-- the same of a name, by its number among those that are there
abbrev pub with_name : Stated → Name → Stated
with_name d n = with_number d n (number_of d.names n.text)

-- more names, one after the other
abbrev pub with_names : Stated → List Name → Stated
with_names d [] = d
with_names d (n ∷ ns) = with_names (with_name d n) ns
