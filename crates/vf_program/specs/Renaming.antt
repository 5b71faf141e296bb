-- Names of a unit in the table of a program.
use Rattle.std.specs.Prelude.{◌≡◌, ℕ, ◌+◌, ◌<◌, List, length, slice_get}
use Rattle.vf_tree.specs.Core.{Identity}

-- what a unit's table has stands in the table of a program, from an index on
abbrev pub StandsFrom : List Identity → List Identity → ℕ → Type 0
StandsFrom own all first = (n : ℕ) → n < length own → slice_get all (first + n) ≡ slice_get own n
