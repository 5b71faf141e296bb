-- The positional words of a command line.
use Rattle.std.specs.Prelude.{ℕ, Bool, false, ◌==◌, List, [], ◌∷◌, Option, Some, None, codes, if◌then◌else◌, option_map, map}
use Rattle.std.specs.Borrow.{Bor}
use Rattle.std.specs.Str.{bytes_eq}

-- the bytes of words
abbrev pub texts : List (Bor (List ℕ)) → List (List ℕ)
texts words = map (λ w. w.now) words

-- A word asks for an option where it begins with '-' and is not that alone.
abbrev pub is_option : List ℕ → Bool
is_option [] = false
is_option (b ∷ []) = false
is_option (b ∷ c ∷ bs) = b == 45

-- The positional words among words where no option is known: "--" ends the options and is itself left out, each word behind it is positional,
-- and a word before it that asks for an option makes the words none.
abbrev pub positionals : List (List ℕ) → Option (List (List ℕ))
positionals [] = Some []
positionals (w ∷ ws) = if bytes_eq w (codes "--") then Some ws else (if is_option w then None else option_map (λ vs. w ∷ vs) (positionals ws))
