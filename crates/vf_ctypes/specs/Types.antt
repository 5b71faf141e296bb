-- How C's integer types turn into one another (C11 6.3.1).
use Rattle.std.specs.Prelude.{ℕ, Bool, true, false, cond, nat_lt, nat_le, ◌&&◌, ℤ, pos, int_le, Option, Some, None}
use Rattle.std.specs.Ordering.{int_eq}
use Rattle.vf_base.specs.declared.int_type.IntType.{IntType}
use Rattle.vf_base.specs.declared.int_type.IntType.TheVariants as types
use Rattle.vf_model.specs.Integers.{least, greatest, in_range}

-- the rank of a type (C11 6.3.1.1): types of one rank differ in their sign alone
abbrev pub rank : IntType → ℕ
rank types.Bool = 0
rank types.Char = 1
rank types.UChar = 1
rank types.Short = 2
rank types.UShort = 2
rank types.Int = 3
rank types.UInt = 3
rank types.Long = 4
rank types.ULong = 4
rank types.LongLong = 5
rank types.ULongLong = 5

-- a type has negative numbers
abbrev pub is_signed : IntType → Bool
is_signed types.Bool = false
is_signed types.Char = true
is_signed types.UChar = false
is_signed types.Short = true
is_signed types.UShort = false
is_signed types.Int = true
is_signed types.UInt = false
is_signed types.Long = true
is_signed types.ULong = false
is_signed types.LongLong = true
is_signed types.ULongLong = false

-- the type without a sign of a type's rank
abbrev pub without_sign : IntType → IntType
without_sign types.Bool = types.Bool
without_sign types.Char = types.UChar
without_sign types.UChar = types.UChar
without_sign types.Short = types.UShort
without_sign types.UShort = types.UShort
without_sign types.Int = types.UInt
without_sign types.UInt = types.UInt
without_sign types.Long = types.ULong
without_sign types.ULong = types.ULong
without_sign types.LongLong = types.ULongLong
without_sign types.ULongLong = types.ULongLong

-- each number of the second type is one of the first
abbrev pub holds_all : IntType → IntType → Bool
holds_all t u = int_le (least t) (least u) && int_le (greatest u) (greatest t)

-- integer promotion (C11 6.3.1.1): a type of lower rank than `int` becomes `int`, which has all its numbers
abbrev pub promoted : IntType → IntType
promoted t = cond (nat_lt (rank t) (rank types.Int)) types.Int t

-- the common type of a type with a sign and one without: the one without where its rank is not less, else the one with a sign where it has all numbers of the other, else the one without a sign of its rank (C11 6.3.1.8)
abbrev pub common_mixed : IntType → IntType → IntType
common_mixed signed unsigned = cond (nat_le (rank signed) (rank unsigned)) unsigned (cond (holds_all signed unsigned) signed (without_sign signed))

-- the common type of two types that promotion leaves: where both have a sign or neither has, the one of higher rank
abbrev pub common_promoted : IntType → IntType → IntType
common_promoted a b = cond (is_signed a) (cond (is_signed b) (cond (nat_lt (rank a) (rank b)) b a) (common_mixed a b)) (cond (is_signed b) (common_mixed b a) (cond (nat_lt (rank a) (rank b)) b a))

-- the common type of two operands (C11 6.3.1.8): both are promoted first
abbrev pub common_type : IntType → IntType → IntType
common_type a b = common_promoted (promoted a) (promoted b)

-- a number as one of a type that is not bool: itself where it is one, else nothing
abbrev pub fitted : IntType → ℤ → Option ℤ
fitted t z = cond (in_range t z) (Some z) None

-- a number converted to a type: to bool, 1 where it is not 0 (C11 6.3.1.2); to another, itself where it is one of its numbers, else nothing
abbrev pub converted : IntType → ℤ → Option ℤ
converted types.Bool z = Some (cond (int_eq z (pos 0)) (pos 0) (pos 1))
converted t z = fitted t z
