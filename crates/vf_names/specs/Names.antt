-- Names in the order in which they came.
use Rattle.std.specs.Prelude.{ℕ, List, [], ◌∷◌, ◌++◌, Option, Some, None}
use Rattle.std.specs.List.{position_from}
use Rattle.std.specs.Str.{bytes_eq}

-- the number of a name among names: how many stand before it
abbrev pub number_of : List (List ℕ) → List ℕ → Option ℕ
number_of names name = position_from (bytes_eq name) 0 names

-- the names with one more at the end, where it has no number
abbrev pub put_found : List (List ℕ) → List ℕ → Option ℕ → List (List ℕ)
put_found names name None = names ++ name ∷ []
put_found names name (Some n) = names

-- the names with one more at the end, unless it is there already
abbrev pub put : List (List ℕ) → List ℕ → List (List ℕ)
put names name = put_found names name (number_of names name)
