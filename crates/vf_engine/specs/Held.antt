-- Values that are held by their numbers: those of low numbers in a list, the others in a map.
use Rattle.std.specs.Prelude.{ℕ, suc, List, [], ◌∷◌, ◌++◌, Option, Some, None, slice_index_or}
use Rattle.std.specs.Option.{option_or}
use Rattle.std.specs.Ordering.{nat_cmp}
use Rattle.std.specs.BTreeMap as tree
use Rattle.std.specs.BTreeMap.{BTreeMap}

-- the values of a list, with their places counted from a number
abbrev pub numbered : {V : Type 0} → ℕ → List (Option V) → List (ℕ × V)
numbered from [] = []
numbered from (None ∷ vs) = numbered (suc from) vs
numbered from (Some v ∷ vs) = (from, v) ∷ numbered (suc from) vs

-- all values with their numbers: of two with the same number, the first counts
abbrev pub entries_held : {V : Type 0} → List (Option V) → BTreeMap ℕ V → List (ℕ × V)
entries_held low beyond = numbered 0 low ++ beyond.entries

-- the value of a number
abbrev pub held : {V : Type 0} → List (Option V) → BTreeMap ℕ V → ℕ → Option V
held low beyond number = option_or (slice_index_or low number None) (tree.get nat_cmp beyond number)
