-- When types of C are the same.
use Rattle.std.specs.Prelude.{ℕ, Bool, true, false, ◌&&◌, nat_eq, List, [], ◌∷◌}
use Rattle.vf_base.specs.declared.int_type.IntType.{IntType}
use Rattle.vf_base.specs.declared.int_type.IntType.TheVariants as integers
use Rattle.vf_declared.specs.declared.ctype.CType.{CType}
use Rattle.vf_declared.specs.declared.ctype.CType.TheVariants as types

-- the number of an integer type, by which it is told from the others
abbrev pub integer_number : IntType → ℕ
integer_number integers.Bool = 0
integer_number integers.Char = 1
integer_number integers.UChar = 2
integer_number integers.Short = 3
integer_number integers.UShort = 4
integer_number integers.Int = 5
integer_number integers.UInt = 6
integer_number integers.Long = 7
integer_number integers.ULong = 8
integer_number integers.LongLong = 9
integer_number integers.ULongLong = 10

-- two integer types are one
abbrev pub same_integer : IntType → IntType → Bool
same_integer a b = nat_eq (integer_number a) (integer_number b)

-- two types are one
abbrev pub same_type : CType → CType → Bool
same_type types.Void types.Void = true
same_type (types.Integer a) (types.Integer b) = same_integer a b
same_type types.VoidPointer types.VoidPointer = true
same_type types.IntPointer types.IntPointer = true
same_type (types.StructPointer n) (types.StructPointer m) = nat_eq n m
same_type (types.FunctionPointer n) (types.FunctionPointer m) = nat_eq n m
same_type (types.Function n) (types.Function m) = nat_eq n m
same_type a b = false

-- two lists have the same types in the same order
abbrev pub same_types : List CType → List CType → Bool
same_types [] [] = true
same_types (a ∷ xs) (b ∷ ys) = same_type a b && same_types xs ys
same_types xs ys = false
