-- The words of a manifest's lines: names, paths, identities and digests.
use Rattle.std.specs.Prelude.{ℕ, ◌==◌, Bool, false, not, ◌||◌, ◌&&◌, nat_le, List, [], ◌∷◌, ◌++◌, length, codes}
use Rattle.std.specs.Char.{is_ascii_alphabetic, is_ascii_digit}
use Rattle.std.specs.List.{list_all, list_any}
use Rattle.std.specs.Str.{bytes_eq}
use Rattle.vf_manifest.specs.Identities.{Identity}

-- a byte that is printed and no blank
abbrev pub is_visible : ℕ → Bool
is_visible b = nat_le 33 b && nat_le b 126

-- a byte that may stand in a path: it is printed, and no blank, no quote, no '#' and no angle bracket
abbrev pub is_path_byte : ℕ → Bool
is_path_byte b = is_visible b && not (b == 34) && not (b == 35) && not (b == 39) && not (b == 60) && not (b == 62)

-- a path of a file: it is not empty, and has only such bytes
abbrev pub is_file_path : List ℕ → Bool
is_file_path path = not (length path == 0) && list_all is_path_byte path

-- the paths of the prelude's headers
abbrev pub prelude_paths : List (List ℕ)
prelude_paths = codes "<stddef.h>" ∷ codes "<stdbool.h>" ∷ codes "<stdlib.h>" ∷ codes "<stdio.h>" ∷ codes "<vf_output.h>" ∷ codes "<threading.h>" ∷ codes "<vf_arrays.h>" ∷ []

-- a path of a header of the prelude
abbrev pub is_prelude_path : List ℕ → Bool
is_prelude_path path = list_any (λ p. bytes_eq path p) prelude_paths

-- a path: of a file, or of a header of the prelude
abbrev pub is_path : List ℕ → Bool
is_path path = is_file_path path || is_prelude_path path

-- a letter or `_`
abbrev pub is_letter : ℕ → Bool
is_letter b = is_ascii_alphabetic b || b == 95

-- a letter, a digit or `_`
abbrev pub is_word_byte : ℕ → Bool
is_word_byte b = is_letter b || is_ascii_digit b

-- a name, as C has them: a letter or `_`, and then letters, digits and `_` (C11 6.4.2.1)
abbrev pub is_name : List ℕ → Bool
is_name [] = false
is_name (b ∷ bs) = is_letter b && list_all is_word_byte bs

-- a hexadecimal digit in lower case
abbrev pub is_lower_hex : ℕ → Bool
is_lower_hex b = is_ascii_digit b || nat_le 97 b && nat_le b 102

-- a digest of SHA-256 in hexadecimal: 64 digits in lower case (FIPS 180-4 has 256 bits)
abbrev pub is_digest : List ℕ → Bool
is_digest text = length text == 64 && list_all is_lower_hex text

-- the text of an identity: the path, '#' and the name
abbrev pub identity_text : Identity → List ℕ
identity_text i = i.path ++ 35 ∷ i.name

-- an identity: a path, and a name that is declared there first
abbrev pub is_identity : Identity → Bool
is_identity i = is_path i.path && is_name i.name

-- an identity of a file, and of no header of the prelude
abbrev pub is_own_identity : Identity → Bool
is_own_identity i = is_file_path i.path && is_name i.name
