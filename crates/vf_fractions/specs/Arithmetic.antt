-- Differences and quotients of fractions.
use Rattle.std.specs.Prelude.{ℕ, ◌+◌, ◌-◌, ◌*◌, ◌/◌, ◌%◌, ◌^◌, cond, ◌==◌, Option, Some, None}
use Rattle.vf_model.specs.Values.{Dyadic}
use Rattle.vf_meaning.specs.Fractions.{numerator, exponent, reduced}
use Rattle.vf_fractions.specs.Kept.{has_form}
use Rattle.vf_fractions.specs.declared.dyadic.Quotient.{Quotient}
use Rattle.vf_fractions.specs.declared.dyadic.Quotient.TheVariants.{Fraction, NoForm, NotDyadic}

-- the first of two fractions less the second, or 0 where it is not greater
abbrev pub difference : Dyadic → Dyadic → Dyadic
difference a b = reduced (numerator a * 2 ^ exponent b - numerator b * 2 ^ exponent a) (exponent a + exponent b)

-- the greatest odd divisor of a number: n / 2^n in lowest terms has no 2 left in its numerator
abbrev pub odd_part : ℕ → ℕ
odd_part n = numerator (reduced n n)

-- how often a number can be halved
abbrev pub halvings : ℕ → ℕ
halvings n = n - exponent (reduced n n)

-- the first of two fractions over the second, where that is a dyadic fraction: where the odd part of the divisor's numerator divides the other numerator
abbrev pub quotient : Dyadic → Dyadic → Option Dyadic
quotient a b = cond (numerator a % odd_part (numerator b) == 0) (Some (reduced (numerator a / odd_part (numerator b) * 2 ^ exponent b) (exponent a + halvings (numerator b)))) None

-- a quotient told apart: a fraction that has a form, one that has none, or no dyadic fraction
abbrev pub told : Option Dyadic → Quotient
told (Some x) = cond (has_form x) (Fraction x) NoForm
told None = NotDyadic
