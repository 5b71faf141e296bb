-- The files of a unit, from what expanding it gave and the paths of the files.
use Rattle.std.specs.Prelude.{ℕ, suc, Bool, nat_eq, nat_lt, if◌then◌else◌, List, [], ◌∷◌, filter, Option, Some, None, is_some, slice_get, slice_set, codes}
use Rattle.std.specs.List.{list_any}
use Rattle.std.specs.Str.{bytes_eq}
use Rattle.vf_snapshot.specs.declared.held.Held.{Held}
use Rattle.vf_snapshot.specs.Holdings.{Holdings}
use Rattle.vf_preproc.specs.Targets.{prelude_path}
use Rattle.vf_expand.specs.Worlds.{prelude_text}
use Rattle.vf_expand.specs.declared.whole.UnitTokens.{UnitTokens}
use Rattle.vf_resolve.specs.declared.files.Files.{Files}

-- the path of what is held, empty where nothing is
abbrev pub path_in : Option (List ℕ × Held) → List ℕ
path_in None = []
path_in (Some e) = e.0

-- the path of the file with a number, which has 32 bits; empty where no file has it
abbrev pub path_of : Holdings → ℕ → List ℕ
path_of held n = if nat_lt n 4294967296 then path_in (slice_get held n) else []

-- a header of the prelude has the path `<NAME>` by which its text is known, and no other file has such a path
abbrev pub is_prelude : Holdings → ℕ → Bool
is_prelude held n = is_some (prelude_text (path_of held n))

-- a file has a path
abbrev pub is_at : Holdings → List ℕ → ℕ → Bool
is_at held path n = bytes_eq (path_of held n) path

-- the files of a unit: its own, and its headers in the order of their first includes
abbrev pub files_in : UnitTokens → List ℕ
files_in u = u.«end».file ∷ u.headers

-- the files of which a file consists, itself among them, where these stand beside each file of a unit; none where it is no file of the unit
abbrev pub consists_of : List ℕ → List (List ℕ) → ℕ → List ℕ
consists_of [] gss n = []
consists_of (f ∷ fs) [] n = []
consists_of (f ∷ fs) (gs ∷ gss) n = if nat_eq n f then gs else consists_of fs gss n

-- an item for each of some others, by their numbers, counted from a first one
abbrev pub by_numbers : {A : Type 0} {B : Type 0} → (ℕ → B) → ℕ → List A → List B
by_numbers f n [] = []
by_numbers f n (x ∷ xs) = f n ∷ by_numbers f (suc n) xs

-- the files of which each file of a snapshot consists, by their numbers
abbrev pub headers_of : List ℕ → List (List ℕ) → Holdings → List (List ℕ)
headers_of fs gss held = by_numbers (consists_of fs gss) 0 held

-- a table by numbers with an entry at a number, where both are there
abbrev pub with_optional : List (List ℕ) → Option ℕ → Option (List ℕ) → List (List ℕ)
with_optional gss (Some n) (Some gs) = slice_set gss n gs
with_optional gss _ _ = gss

-- one of the headers of a unit has a path
abbrev pub has_header : Holdings → List ℕ → List ℕ → Bool
has_header held path headers = list_any (is_at held path) headers

-- the files of a unit, by the paths of a snapshot
abbrev pub files_of : UnitTokens → Holdings → Files
files_of u held = record { own = u.«end».file; headers = headers_of (files_in u) u.includes held; preludes = filter (is_prelude held) (files_in u); has_stdlib = has_header held (prelude_path (codes "stdlib.h")) u.headers; has_arrays = has_header held (prelude_path (codes "vf_arrays.h")) u.headers }
