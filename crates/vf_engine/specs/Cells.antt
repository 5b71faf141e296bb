-- What the code's cells stand for.
use Rattle.std.specs.Prelude.{◌≡◌, ℕ, ℤ, pos, Bool, true, false, cond, nat_lt, Option, Some, None}
use Rattle.vf_model.specs.Memory as model
use Rattle.vf_engine.specs.declared.cell.Cell.{Cell}

-- a cell's name
abbrev pub place_of : Cell → model.Cell
place_of c = record { block = c.block; index = c.index }

-- a whole number as an index of a list of that length, where it is one
abbrev pub index_in : ℤ → ℕ → Option ℕ
index_in (pos i) n = cond (nat_lt i n) (Some i) None
index_in _ n = None

-- a place that was found is the number, where the test says that there is one; else none is found
abbrev pub is_index_or_end : Option ℕ → ℤ → Bool → Type 0
is_index_or_end (Some place) z there = (pos place ≡ z) × (there ≡ true)
is_index_or_end None z there = there ≡ false
