-- C's integer types: what they range over, and their arithmetic, which has no value outside of that range.
-- The model computes with unbounded numbers and then asks whether the result fits.
use Rattle.std.specs.Prelude.{◌-◌, ◌^◌, Bool, false, ◌&&◌, ◌||◌, ℤ, pos, negsuc, neg_ℤ, ◌+ℤ◌, ◌-ℤ◌, ◌*ℤ◌, ◌≤ℤ◌, int_le, int_div, int_rem}
use Rattle.std.specs.Ordering.{int_eq}
use Rattle.vf_base.specs.declared.int_type.IntType.{IntType}
use Rattle.vf_base.specs.declared.int_type.IntType.TheVariants as types
use Rattle.vf_tree.specs.Core.{ArithmeticOperator, Add, Subtract, Multiply, Divide, Remainder}

-- the least number of a type (C11 6.2.5, 5.2.4.2.1): 0 where it has no sign, else -2^(w-1) at w bits
abbrev pub least : IntType → ℤ
least types.Bool = pos 0
least types.Char = neg_ℤ (pos (2 ^ 7))
least types.UChar = pos 0
least types.Short = neg_ℤ (pos (2 ^ 15))
least types.UShort = pos 0
least types.Int = neg_ℤ (pos (2 ^ 31))
least types.UInt = pos 0
least types.Long = neg_ℤ (pos (2 ^ 63))
least types.ULong = pos 0
least types.LongLong = neg_ℤ (pos (2 ^ 63))
least types.ULongLong = pos 0

-- the greatest number of a type: 2^w - 1 where it has no sign, else 2^(w-1) - 1 at w bits
abbrev pub greatest : IntType → ℤ
greatest types.Bool = pos 1
greatest types.Char = pos (2 ^ 7 - 1)
greatest types.UChar = pos (2 ^ 8 - 1)
greatest types.Short = pos (2 ^ 15 - 1)
greatest types.UShort = pos (2 ^ 16 - 1)
greatest types.Int = pos (2 ^ 31 - 1)
greatest types.UInt = pos (2 ^ 32 - 1)
greatest types.Long = pos (2 ^ 63 - 1)
greatest types.ULong = pos (2 ^ 64 - 1)
greatest types.LongLong = pos (2 ^ 63 - 1)
greatest types.ULongLong = pos (2 ^ 64 - 1)

-- a number is one of the type's
abbrev pub InRange : IntType → ℤ → Type 0
InRange t z = (least t ≤ℤ z) × (z ≤ℤ greatest t)

-- the test of that
abbrev pub in_range : IntType → ℤ → Bool
in_range t z = int_le (least t) z && int_le z (greatest t)

-- What an operator makes of two numbers, the range aside. Division truncates toward zero, and the remainder has the sign of the dividend (C11 6.5.5)
abbrev pub arithmetic : ArithmeticOperator → ℤ → ℤ → ℤ
arithmetic Add a b = a +ℤ b
arithmetic Subtract a b = a -ℤ b
arithmetic Multiply a b = a *ℤ b
arithmetic Divide a b = int_div a b
arithmetic Remainder a b = int_rem a b

-- the divisor is 0, or the least number of the type is divided by -1
abbrev pub bad_divisor : IntType → ℤ → ℤ → Bool
bad_divisor t a b = int_eq b (pos 0) || (int_eq b (negsuc 0) && int_eq a (least t))

-- an operator that divides has a bad divisor; the others have none
abbrev pub divides_badly : ArithmeticOperator → IntType → ℤ → ℤ → Bool
divides_badly Add t a b = false
divides_badly Subtract t a b = false
divides_badly Multiply t a b = false
divides_badly Divide t a b = bad_divisor t a b
divides_badly Remainder t a b = bad_divisor t a b
