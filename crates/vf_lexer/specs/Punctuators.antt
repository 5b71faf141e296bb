-- Punctuators, and which of them a text begins with.
use Rattle.std.specs.Prelude.{Bool, List, [], ◌∷◌, ℕ, codes, nat_eq, Option, if◌then◌else◌}
use Rattle.std.specs.List.{find, starts_with}
use Rattle.vf_lexer.specs.declared.punctuator.Punctuator.{Punctuator}
use Rattle.vf_lexer.specs.declared.punctuator.Punctuator.TheVariants as punctuators

-- how a punctuator is written
abbrev pub spelling : Punctuator → List ℕ
spelling punctuators.OpenParenthesis = codes "("
spelling punctuators.CloseParenthesis = codes ")"
spelling punctuators.OpenBrace = codes "{"
spelling punctuators.CloseBrace = codes "}"
spelling punctuators.OpenBracket = codes "["
spelling punctuators.CloseBracket = codes "]"
spelling punctuators.Semicolon = codes ";"
spelling punctuators.Comma = codes ","
spelling punctuators.Colon = codes ":"
spelling punctuators.Question = codes "?"
spelling punctuators.Plus = codes "+"
spelling punctuators.Minus = codes "-"
spelling punctuators.Star = codes "*"
spelling punctuators.Slash = codes "/"
spelling punctuators.Percent = codes "%"
spelling punctuators.Not = codes "!"
spelling punctuators.Becomes = codes "="
spelling punctuators.Equal = codes "=="
spelling punctuators.NotEqual = codes "!="
spelling punctuators.Less = codes "<"
spelling punctuators.LessOrEqual = codes "<="
spelling punctuators.Greater = codes ">"
spelling punctuators.GreaterOrEqual = codes ">="
spelling punctuators.AndAnd = codes "&&"
spelling punctuators.OrOr = codes "||"
spelling punctuators.Arrow = codes "->"
spelling punctuators.Hash = codes "#"
spelling punctuators.PlusPlus = codes "++"
spelling punctuators.MinusMinus = codes "--"
spelling punctuators.PlusBecomes = codes "+="
spelling punctuators.MinusBecomes = codes "-="
spelling punctuators.StarBecomes = codes "*="
spelling punctuators.SlashBecomes = codes "/="
spelling punctuators.PercentBecomes = codes "%="
spelling punctuators.Ampersand = codes "&"
spelling punctuators.Bar = codes "|"
spelling punctuators.Caret = codes "^"
spelling punctuators.Tilde = codes "~"
spelling punctuators.ShiftLeft = codes "<<"
spelling punctuators.ShiftRight = codes ">>"
spelling punctuators.AmpersandBecomes = codes "&="
spelling punctuators.BarBecomes = codes "|="
spelling punctuators.CaretBecomes = codes "^="
spelling punctuators.ShiftLeftBecomes = codes "<<="
spelling punctuators.ShiftRightBecomes = codes ">>="
spelling punctuators.Dot = codes "."
spelling punctuators.Ellipsis = codes "..."
spelling punctuators.SeparatingAnd = codes "&*&"
spelling punctuators.PointsTo = codes "|->"

-- the punctuators of real text, longer ones first
abbrev pub real_punctuators : List Punctuator
real_punctuators = punctuators.ShiftLeftBecomes ∷ punctuators.ShiftRightBecomes ∷ punctuators.Ellipsis ∷ punctuators.Equal ∷ punctuators.NotEqual ∷ punctuators.LessOrEqual
    ∷ punctuators.GreaterOrEqual ∷ punctuators.AndAnd ∷ punctuators.OrOr ∷ punctuators.Arrow ∷ punctuators.PlusPlus ∷ punctuators.MinusMinus
    ∷ punctuators.PlusBecomes ∷ punctuators.MinusBecomes ∷ punctuators.StarBecomes ∷ punctuators.SlashBecomes ∷ punctuators.PercentBecomes ∷ punctuators.ShiftLeft
    ∷ punctuators.ShiftRight ∷ punctuators.AmpersandBecomes ∷ punctuators.BarBecomes ∷ punctuators.CaretBecomes ∷ punctuators.OpenParenthesis ∷ punctuators.CloseParenthesis
    ∷ punctuators.OpenBrace ∷ punctuators.CloseBrace ∷ punctuators.OpenBracket ∷ punctuators.CloseBracket ∷ punctuators.Semicolon ∷ punctuators.Comma
    ∷ punctuators.Colon ∷ punctuators.Question ∷ punctuators.Plus ∷ punctuators.Minus ∷ punctuators.Star ∷ punctuators.Slash
    ∷ punctuators.Percent ∷ punctuators.Not ∷ punctuators.Becomes ∷ punctuators.Less ∷ punctuators.Greater ∷ punctuators.Hash
    ∷ punctuators.Ampersand ∷ punctuators.Bar ∷ punctuators.Caret ∷ punctuators.Tilde ∷ punctuators.Dot ∷ []

-- the punctuators of ghost text, longer ones first
abbrev pub ghost_punctuators : List Punctuator
ghost_punctuators = punctuators.SeparatingAnd ∷ punctuators.PointsTo ∷ punctuators.Equal ∷ punctuators.NotEqual ∷ punctuators.LessOrEqual ∷ punctuators.GreaterOrEqual
    ∷ punctuators.AndAnd ∷ punctuators.OrOr ∷ punctuators.Arrow ∷ punctuators.OpenParenthesis ∷ punctuators.CloseParenthesis ∷ punctuators.OpenBrace
    ∷ punctuators.CloseBrace ∷ punctuators.OpenBracket ∷ punctuators.CloseBracket ∷ punctuators.Semicolon ∷ punctuators.Comma ∷ punctuators.Colon
    ∷ punctuators.Question ∷ punctuators.Plus ∷ punctuators.Minus ∷ punctuators.Star ∷ punctuators.Slash ∷ punctuators.Percent
    ∷ punctuators.Not ∷ punctuators.Becomes ∷ punctuators.Less ∷ punctuators.Greater ∷ punctuators.Hash ∷ punctuators.Bar
    ∷ []

-- the first of some punctuators with which a text begins; the longest, where longer ones stand first
abbrev pub longest_of : List Punctuator → List ℕ → Option Punctuator
longest_of ps text = find (λ p. starts_with nat_eq text (spelling p)) ps

-- the longest punctuator with which a text begins
unfoldable pub punctuator_of : Bool → List ℕ → Option Punctuator
punctuator_of ghost text = if ghost then longest_of ghost_punctuators text else longest_of real_punctuators text

-- the punctuators of one kind of text
abbrev pub punctuators_in : Bool → List Punctuator
punctuators_in ghost = if ghost then ghost_punctuators else real_punctuators
