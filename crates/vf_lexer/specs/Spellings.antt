-- How tokens are written: each kind by its bytes alone, whatever follows them.
use Rattle.std.specs.Prelude.{◌≡◌, ◌⊎◌, ℕ, Bool, true, List, [], ◌∷◌, ◌++◌, codes, Some, Contains}
use Rattle.std.specs.List.{list_all}
use Rattle.vf_lexer.specs.declared.token.Kind.{Kind}
use Rattle.vf_lexer.specs.declared.token.Kind.TheVariants as kinds
use Rattle.vf_lexer.specs.Bytes.{is_letter, is_word_byte, is_plain, is_quoted}
use Rattle.vf_lexer.specs.Numbers.{number_of}
use Rattle.vf_lexer.specs.Punctuators.{spelling, punctuators_in}
use Rattle.vf_lexer.specs.Pieces.{name_kind, escaped}

-- a letter or `_`, and behind it letters, digits and `_` (C11 6.4.2.1)
abbrev pub IsWord : List ℕ → Type 0
IsWord [] = ⊥
IsWord (b ∷ bs) = (is_letter b ≡ true) × (list_all is_word_byte bs ≡ true)

-- a byte that stands for itself, or a backslash and the letter that means it, between single quotes (C11 6.4.4.4)
abbrev pub WritesCharacter : ℕ → List ℕ → Type 0
WritesCharacter value bytes = ((is_plain value ≡ true) × (bytes ≡ 39 ∷ value ∷ 39 ∷ []))
    ⊎ ((letter : ℕ) × (escaped letter ≡ Some value) × (bytes ≡ 39 ∷ 92 ∷ letter ∷ 39 ∷ []))

-- bytes of one line between double quotes (C11 6.4.5)
abbrev pub WritesLiteral : List ℕ → Type 0
WritesLiteral bytes = (body : List ℕ) × (list_all is_quoted body ≡ true) × (bytes ≡ 34 ∷ (body ++ codes "\""))

-- these bytes are how a token of this kind is written, in real or in ghost text; a lone `_` in ghost text is no name
abbrev pub Spells : Bool → Kind → List ℕ → Type 0
Spells ghost kinds.Name bytes = IsWord bytes × (name_kind ghost bytes ≡ kinds.Name)
Spells ghost kinds.Wild bytes = IsWord bytes × (name_kind ghost bytes ≡ kinds.Wild)
Spells ghost (kinds.Number value t) bytes = number_of ghost bytes ≡ Some (value, t)
Spells ghost (kinds.Character value) bytes = WritesCharacter value bytes
Spells ghost kinds.Literal bytes = WritesLiteral bytes
Spells ghost (kinds.Punctuator p) bytes = Contains (punctuators_in ghost) p × (bytes ≡ spelling p)

-- no token of any kind is written by these bytes and some more of the rest (C11 6.4, paragraph 4)
abbrev pub IsLongest : Bool → List ℕ → List ℕ → Type 0
IsLongest ghost bytes rest = (kind : Kind) (more after : List ℕ) → rest ≡ more ++ after → (more ≡ [] → ⊥) → Spells ghost kind (bytes ++ more) → ⊥
