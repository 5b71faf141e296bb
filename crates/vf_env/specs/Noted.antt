-- What becomes of lists of numbers beside names where one more item declares some of the names.
use Rattle.std.specs.Prelude.{◌≡◌, ℕ, ◌-◌, Bool, false, nat_eq, if◌then◌else◌, List, [], ◌∷◌, ◌++◌, length, Option, Some, None, slice_get}
use Rattle.std.specs.Option.{option_map}
use Rattle.vf_names.specs.Names.{number_of}
use Rattle.vf_env.specs.Trees.{is_among}

-- a number that may be none is this one
abbrev pub is_number : ℕ → Option ℕ → Bool
is_number n None = false
is_number n (Some m) = nat_eq m n

-- a number stands at the end of a list
abbrev pub is_last : List ℕ → ℕ → Bool
is_last ns n = is_number n (slice_get ns (length ns - 1))

-- a list with a number at its end, which it gets unless it is there
abbrev pub ending_with : List ℕ → ℕ → List ℕ
ending_with ns n = if is_last ns n then ns else ns ++ n ∷ []

-- the numbers of the items that declare a name, and behind them the number of one that declares these names, if it is among them
abbrev pub with_item : List (List ℕ) → ℕ → List ℕ → List ℕ → List ℕ
with_item xs n x ns = if is_among xs x then ending_with ns n else ns

-- lists of numbers beside names became others where an item with a number declares some names
pub record AreNoted (names xs : List (List ℕ)) (n : ℕ) (old new : List (List ℕ)) : Type 0 where
  pub beside : length new ≡ length old
  pub lists : (x : List ℕ) (k : ℕ) → number_of names x ≡ Some k → slice_get new k ≡ option_map (with_item xs n x) (slice_get old k)
