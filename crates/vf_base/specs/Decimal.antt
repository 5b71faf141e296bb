-- Numbers in decimal, as texts have them.
use Rattle.std.specs.Prelude.{◌≡◌, ℕ, Bool, false, List, [], ◌∷◌, ◌++◌}
use Rattle.std.specs.Char.{is_ascii_digit}
use Rattle.std.specs.Fmt.{decimal as written}

-- the decimal digits of a number in ASCII, the highest first and without leading zeros, 0 being "0" (what Rust's `{}` writes)
abbrev pub decimal : ℕ → List ℕ
decimal n = written n

-- whether a text begins with a digit
abbrev pub begins_with_digit : List ℕ → Bool
begins_with_digit [] = false
begins_with_digit (b ∷ bs) = is_ascii_digit b

-- the digits in front of a text are those of the number, and rest follows them
pub record IsDecimalFront (text : List ℕ) (n : ℕ) (rest : List ℕ) : Type 0 where
  pub parts : text ≡ decimal n ++ rest
  pub ends : begins_with_digit rest ≡ false
