-- Conversions between types (C11 6.3.1, 6.3.2.3).
use Rattle.std.specs.Prelude.{Bool, true, false, if◌then◌else◌}
use Rattle.vf_base.specs.declared.int_type.IntType.{IntType}
use Rattle.vf_base.specs.declared.int_type.IntType.TheVariants as integers
use Rattle.vf_base.specs.declared.place.Place.{Place}
use Rattle.vf_core.specs.declared.words.Comparison.TheVariants as comparisons
use Rattle.vf_declared.specs.declared.ctype.CType.{CType}
use Rattle.vf_declared.specs.declared.ctype.CType.TheVariants as types
use Rattle.vf_declared.specs.Types.{same_integer}
use Rattle.vf_steps.specs.Tree.{ValueTree}
use Rattle.vf_steps.specs.Tree as steps
use Rattle.vf_lower.specs.Lowering.{Lowering, gives}
use Rattle.vf_lower.specs.Settings.{Kind}
use Rattle.vf_lower.specs.Branches.{Test, test, selected}

-- the value with which a value of a type is compared where it is a condition: false, 0 or null
abbrev pub zero_of : CType → ValueTree
zero_of (types.Integer integers.Bool) = steps.truth false
zero_of (types.Integer i) = steps.number 0
zero_of t = steps.null

-- a value of a type as a condition
abbrev pub is_set : CType → ValueTree → Test
is_set t v = test comparisons.NotEqual v (zero_of t)

-- a value of a type is made a truth value at a place, in the statement at another
abbrev pub as_truth : Place → CType → ValueTree → Place → Lowering ValueTree
as_truth s (types.Integer integers.Bool) v p = gives v
as_truth s t v p = selected s (is_set t v) (types.Integer integers.Bool) (steps.truth true) (steps.truth false) p

-- a number of an integer type other than `bool` in another
abbrev pub widened : IntType → IntType → ValueTree → Place → ValueTree
widened i j v p = if same_integer i j then v else steps.convert i j v p

-- it is `bool`
abbrev pub is_bool : IntType → Bool
is_bool integers.Bool = true
is_bool i = false

-- a value of the first integer type is converted to the second at a place, in the statement at another: to and from `bool` by a test
abbrev pub converted : Place → IntType → IntType → ValueTree → Place → Lowering ValueTree
converted s i j v p = if is_bool j then as_truth s (types.Integer i) v p else (if is_bool i then selected s (is_set (types.Integer i) v) (types.Integer j) (steps.number 1) (steps.number 0) p else gives (widened i j v p))

-- a value of the second type is converted to an integer type
abbrev pub to_integer : Place → IntType → CType → ValueTree → Place → Lowering ValueTree
to_integer s j (types.Integer i) v p = converted s i j v p
to_integer s j u v p = gives v

-- a value of a kind passes for one of a type: integers are converted, and a `0` is the null pointer where a pointer is wanted
abbrev pub adapted : Place → CType → Kind → ValueTree → Place → Lowering ValueTree
adapted s (types.Integer j) k v p = to_integer s j k.ctype v p
adapted s t k v p = gives (if k.is_null then steps.null else v)
