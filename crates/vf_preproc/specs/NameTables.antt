-- How the names that stand in files are kept: beside each name the files in which it stands.
use Rattle.std.specs.Prelude.{◌≡◌, ℕ, ◌&&◌, ◌||◌, nat_eq, List, [], length, slice_get, unwrap_or, Option, Some, None}
use Rattle.std.specs.Str.{bytes_eq}
use Rattle.vf_names.specs.Names.{number_of}
use Rattle.vf_preproc.specs.declared.name_table.Index.{Index}
use Rattle.vf_preproc.specs.UnitText.{is_among}
use Rattle.vf_preproc.specs.Joins.{stands_in}

-- the files in which the name with a number stands
abbrev pub places_at : List (List ℕ) → Option ℕ → List ℕ
places_at files None = []
places_at files (Some number) = unwrap_or (slice_get files number) []

-- the files in which a name stands
abbrev pub places : Index → List ℕ → List ℕ
places index name = places_at index.files.items (number_of index.names name)

-- each name has its files
abbrev pub IsEvenIndex : Index → Type 0
IsEvenIndex index = length index.names ≡ length index.files.items

-- a name stands in one more file
pub record Adds (name : List ℕ) (file : ℕ) (old new : Index) : Type 0 where
  pub even : IsEvenIndex new
  pub same : (x : List ℕ) (f : ℕ) → is_among (places new x) f ≡ (is_among (places old x) f || (bytes_eq x name && nat_eq f file))

-- an index tells of each name in which of the files it stands
pub record Indexed (own : List (List (List ℕ))) (index : Index) : Type 0 where
  pub even : IsEvenIndex index
  pub same : (name : List ℕ) (f : ℕ) → is_among (places index name) f ≡ stands_in own name f
