-- What the values of the code stand for.
use Rattle.std.specs.Prelude.{List, map, Option, pos}
use Rattle.std.specs.Option.{option_map}
use Rattle.vf_tree.specs.Core.{Identity}
use Rattle.vf_model.specs.Values as model
use Rattle.vf_core.specs.Shown.{identity_of}
use Rattle.vf_engine.specs.declared.value.Value.{Value}
use Rattle.vf_engine.specs.declared.value.Value.TheVariants as values

-- a value, by the table of names
abbrev pub value_of : List Identity → Value → model.Value
value_of names (values.Number z) = model.Number z
value_of names (values.Truth b) = model.Truth b
value_of names values.Null = model.Null
value_of names (values.Pointer block offset) = model.Pointer block (pos offset)
value_of names (values.Function name) = model.Function (identity_of names name)

-- a cell or a local, which may be unset
abbrev pub cell_of : List Identity → Option Value → Option model.Value
cell_of names v = option_map (value_of names) v

-- cells or locals in order
abbrev pub cells_of : List Identity → List (Option Value) → List (Option model.Value)
cells_of names vs = map (cell_of names) vs
