-- Dyadic fractions: the arithmetic of shares. A fraction is kept in its one form, so equal fractions are one value.
use Rattle.std.specs.Prelude.{ℕ, zero, suc, ◌+◌, ◌-◌, ◌*◌, ◌/◌, ◌%◌, ◌^◌, ◌<◌, ◌≤◌, Bool, cond, ◌==◌, nat_le}
use Rattle.vf_model.specs.Values.{Dyadic, Whole, Odd}

-- the numerator of the fraction's one form, which is odd where the denominator is not 1
abbrev pub numerator : Dyadic → ℕ
numerator (Whole k) = k
numerator (Odd j m) = suc (2 * j)

-- the exponent of 2 in the denominator of the fraction's one form
abbrev pub exponent : Dyadic → ℕ
exponent (Whole k) = 0
exponent (Odd j m) = suc m

-- k / 2 ^ m, brought to its one form by halving both as long as k is even
abbrev pub reduced : ℕ → ℕ → Dyadic
reduced k zero = Whole k
reduced k (suc m) = cond (k % 2 == 0) (reduced (k / 2) m) (Odd (k / 2) m)

-- the fraction 0
abbrev pub nought : Dyadic
nought = Whole 0

-- the fraction 1, all of a thing
abbrev pub whole : Dyadic
whole = Whole 1

-- the sum of two fractions
abbrev pub sum : Dyadic → Dyadic → Dyadic
sum a b = reduced (numerator a * 2 ^ exponent b + numerator b * 2 ^ exponent a) (exponent a + exponent b)

-- the product of two fractions
abbrev pub product : Dyadic → Dyadic → Dyadic
product a b = reduced (numerator a * numerator b) (exponent a + exponent b)

-- half of a fraction
abbrev pub half : Dyadic → Dyadic
half a = reduced (numerator a) (suc (exponent a))

-- a fraction is above 0
abbrev pub IsPositive : Dyadic → Type 0
IsPositive a = 0 < numerator a

-- one fraction is at most the other, by their numerators over a common denominator
abbrev pub AtMost : Dyadic → Dyadic → Type 0
AtMost a b = numerator a * 2 ^ exponent b ≤ numerator b * 2 ^ exponent a

-- whether one fraction is at most the other
abbrev pub is_at_most : Dyadic → Dyadic → Bool
is_at_most a b = nat_le (numerator a * 2 ^ exponent b) (numerator b * 2 ^ exponent a)

-- A fraction counted in units of 1 / 2 ^ s: exact from the scale s on that is the fraction's own exponent
unfoldable pub units : Dyadic → ℕ → ℕ
units a s = numerator a * 2 ^ (s - exponent a)
