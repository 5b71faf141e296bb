-- Fractions as the code keeps them.
use Rattle.std.specs.Prelude.{◌≡◌, ℕ, zero, suc, ◌<◌, ◌≤◌, ◌/◌, ◌%◌, ◌^◌, Bool, ◌&&◌, cond, nat_lt, nat_le, Option, Some, None}
use Rattle.std.proofs.Common.{arith}
use Rattle.vf_model.specs.Values.{Dyadic, Whole, Odd}
use Rattle.vf_meaning.specs.Fractions.{numerator, exponent}

-- k / 2^m is in lowest terms: m is 0 or k is odd
abbrev pub IsLowest : ℕ → ℕ → Type 0
IsLowest k zero = Unit {0}
IsLowest k (suc m) = k % 2 ≡ 1

-- k / 2^m, which is in lowest terms, as a fraction
abbrev pub lowest : ℕ → ℕ → Dyadic
lowest k zero = Whole k
lowest k (suc m) = Odd (k / 2) m

-- k / 2^m is above 0, k is less than 2^63, and m is at most 60
pub record IsKept (k m : ℕ) : Type 0 where
  pub positive : 0 < k
  pub numerator : k < 2 ^ 63
  pub exponent : m ≤ 60

-- a fraction has a form: it is above 0, its numerator is less than 2^63 and the exponent of its denominator at most 60
abbrev pub HasForm : Dyadic → Type 0
HasForm d = IsKept (numerator d) (exponent d)

-- whether a fraction has a form
abbrev pub has_form : Dyadic → Bool
has_form d = nat_lt 0 (numerator d) && (nat_lt (numerator d) (2 ^ 63) && nat_le (exponent d) 60)

-- a fraction, where it has a form
abbrev pub formed : Dyadic → Option Dyadic
formed d = cond (has_form d) (Some d) None

pub lowest_numerator : (k m : ℕ) → IsLowest k m → numerator (lowest k m) ≡ k
lowest_numerator k zero h = omega arith
lowest_numerator k (suc m) h = omega (arith, h)

pub lowest_exponent : (k m : ℕ) → exponent (lowest k m) ≡ m
lowest_exponent k zero = omega arith
lowest_exponent k (suc m) = omega arith
