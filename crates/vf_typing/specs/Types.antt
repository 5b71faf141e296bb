-- Kinds of types, and what operators make of types.
use Rattle.std.specs.Prelude.{Bool, true, false, ◌||◌, if◌then◌else◌}
use Rattle.vf_base.specs.declared.int_type.IntType.TheVariants as integers
use Rattle.vf_ctypes.specs.Types.{common_type}
use Rattle.vf_declared.specs.declared.ctype.CType.{CType}
use Rattle.vf_declared.specs.declared.ctype.CType.TheVariants as types
use Rattle.vf_declared.specs.Types.{same_type}
use Rattle.vf_syntax.specs.declared.operator.BinaryOperator.{BinaryOperator}
use Rattle.vf_syntax.specs.declared.operator.BinaryOperator.TheVariants as operators

-- it is `void`
abbrev pub is_void : CType → Bool
is_void types.Void = true
is_void t = false

-- it is an integer type, `bool` among them
abbrev pub is_integer : CType → Bool
is_integer (types.Integer i) = true
is_integer t = false

-- it is `int`
abbrev pub is_int : CType → Bool
is_int (types.Integer integers.Int) = true
is_int t = false

-- it is an integer type other than `bool`, as an index of an array has it
abbrev pub is_index : CType → Bool
is_index (types.Integer integers.Bool) = false
is_index t = is_integer t

-- it is `void *`
abbrev pub is_void_pointer : CType → Bool
is_void_pointer types.VoidPointer = true
is_void_pointer t = false

-- it is `int *`
abbrev pub is_int_pointer : CType → Bool
is_int_pointer types.IntPointer = true
is_int_pointer t = false

-- it is a pointer type or that of a function's name
abbrev pub is_address : CType → Bool
is_address types.Void = false
is_address (types.Integer i) = false
is_address t = true

-- two pointer types are the same, or one of them is `void *`
abbrev pub same_pointer : CType → CType → Bool
same_pointer a b = same_type a b || (is_void_pointer a || is_void_pointer b)

-- the type of a pointer or of a function's name, used as a pointer: a function's name alone is a `void *`
abbrev pub as_pointer : CType → CType
as_pointer (types.Function f) = types.VoidPointer
as_pointer t = t

-- the type of a choice between two pointers: `void *` where one of them is that
abbrev pub either_pointer : CType → CType → CType
either_pointer a b = if is_void_pointer a || is_void_pointer b then types.VoidPointer else a

-- the type of a choice between two values (C11 6.5.15): a `0` and a function's name take the type of the other
abbrev pub choice_type : CType → CType → CType
choice_type (types.Integer i) (types.Integer j) = types.Integer (common_type i j)
choice_type (types.Integer i) b = as_pointer b
choice_type a (types.Integer j) = as_pointer a
choice_type (types.Function f) (types.Function g) = types.VoidPointer
choice_type (types.Function f) b = b
choice_type a (types.Function g) = a
choice_type a b = either_pointer a b

-- an operator whose result is of the common type of its operands; that of each other is a `bool`
abbrev pub is_arithmetic : BinaryOperator → Bool
is_arithmetic operators.Times = true
is_arithmetic operators.Divide = true
is_arithmetic operators.Remainder = true
is_arithmetic operators.Plus = true
is_arithmetic operators.Minus = true
is_arithmetic o = false

-- the type of a sum and its like: the common type (C11 6.3.1.8), or that of the pointer which is moved
abbrev pub sum_type : CType → CType → CType
sum_type (types.Integer i) (types.Integer j) = types.Integer (common_type i j)
sum_type a b = a

-- the type of what an operator makes of two operands
abbrev pub result_type : BinaryOperator → CType → CType → CType
result_type o a b = if is_arithmetic o then sum_type a b else types.Integer integers.Bool
