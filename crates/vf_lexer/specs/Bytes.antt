-- The bytes of texts, and what may stand nowhere.
use Rattle.std.specs.Prelude.{ℕ, ◌==◌, Bool, not, ◌||◌, ◌&&◌, nat_le, nat_eq, List, [], ◌∷◌, codes}
use Rattle.std.specs.Char.{is_ascii_alphabetic, is_ascii_digit}
use Rattle.std.specs.List.{list_any, starts_with}

-- tab, line feed, form feed, carriage return and space
abbrev pub is_blank : ℕ → Bool
is_blank b = b == 9 || b == 10 || b == 12 || b == 13 || b == 32

-- a letter or `_`
abbrev pub is_letter : ℕ → Bool
is_letter b = is_ascii_alphabetic b || b == 95

-- a letter, a digit or `_`
abbrev pub is_word_byte : ℕ → Bool
is_word_byte b = is_letter b || is_ascii_digit b

-- a byte that may not follow a number directly: a letter, a digit, `_` or `.`
abbrev pub is_number_byte : ℕ → Bool
is_number_byte b = is_word_byte b || b == 46

-- a byte that does not end its line
abbrev pub is_in_line : ℕ → Bool
is_in_line b = not (b == 10)

-- a byte that may stand outside comments
abbrev pub is_allowed : ℕ → Bool
is_allowed b = is_blank b || nat_le 33 b && nat_le b 126

-- a byte that stands for itself in a character constant: not `'` and not a backslash
abbrev pub is_plain : ℕ → Bool
is_plain b = is_allowed b && not (b == 39) && not (b == 92)

-- a byte of a text between double quotes
abbrev pub is_quoted : ℕ → Bool
is_quoted b = is_allowed b && not (b == 10) && not (b == 34)

-- what may stand nowhere: a backslash that ends its line, and the trigraphs
abbrev pub barred : List (List ℕ)
barred = codes "\\\n" ∷ codes "\\\r\n" ∷ codes "??=" ∷ codes "??/" ∷ codes "??'" ∷ codes "??(" ∷ codes "??)" ∷ codes "??!" ∷ codes "??<" ∷ codes "??>" ∷ codes "??-" ∷ []

-- a text begins with what may stand nowhere
unfoldable pub is_barred : List ℕ → Bool
is_barred text = list_any (starts_with nat_eq text) barred
