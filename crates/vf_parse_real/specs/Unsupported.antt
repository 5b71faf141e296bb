-- What C has and the language has not: words, marks and texts of real text that are refused by name.
use Rattle.std.specs.Prelude.{ℕ, Bool, true, false, not, ◌&&◌, List, [], ◌∷◌, Option, Some, None, if◌then◌else◌}
use Rattle.std.specs.List.{list_any}
use Rattle.vf_base.specs.declared.place.Place.{Place}
use Rattle.vf_lexer.specs.declared.punctuator.Punctuator.{Punctuator}
use Rattle.vf_lexer.specs.declared.punctuator.Punctuator.TheVariants as punctuators
use Rattle.vf_lexer.specs.declared.token.Kind.{Kind}
use Rattle.vf_lexer.specs.declared.token.Kind.TheVariants as kinds
use Rattle.vf_lexer.specs.declared.token.Token.{Token}
use Rattle.vf_syntax.specs.declared.keyword.Keyword.{Keyword}
use Rattle.vf_syntax.specs.declared.keyword.Keyword.TheVariants as keywords
use Rattle.vf_syntax.specs.Keywords.{is_spelled}

-- words of C that are refused
abbrev pub unsupported_words : List Keyword
unsupported_words = keywords.Auto ∷ keywords.Break ∷ keywords.Case ∷ keywords.Const ∷ keywords.Continue ∷ keywords.Default ∷ keywords.Do ∷ keywords.Double ∷ keywords.Enum ∷ keywords.Extern ∷ keywords.Float ∷ keywords.Goto ∷ keywords.Inline
    ∷ keywords.Register ∷ keywords.Restrict ∷ keywords.Static ∷ keywords.Switch ∷ keywords.Union ∷ keywords.Volatile ∷ []

-- marks of C that are refused: operators on bits, `.` and `...`
abbrev pub is_unsupported_mark : Punctuator → Bool
is_unsupported_mark punctuators.Ampersand = true
is_unsupported_mark punctuators.Bar = true
is_unsupported_mark punctuators.Caret = true
is_unsupported_mark punctuators.Tilde = true
is_unsupported_mark punctuators.ShiftLeft = true
is_unsupported_mark punctuators.ShiftRight = true
is_unsupported_mark punctuators.AmpersandBecomes = true
is_unsupported_mark punctuators.BarBecomes = true
is_unsupported_mark punctuators.CaretBecomes = true
is_unsupported_mark punctuators.ShiftLeftBecomes = true
is_unsupported_mark punctuators.ShiftRightBecomes = true
is_unsupported_mark punctuators.Dot = true
is_unsupported_mark punctuators.Ellipsis = true
is_unsupported_mark p = false

-- a token of this kind and this text is refused in real text
abbrev pub is_unsupported_kind : Kind → List ℕ → Bool
is_unsupported_kind kinds.Name text = list_any (is_spelled text) unsupported_words
is_unsupported_kind kinds.Literal text = true
is_unsupported_kind (kinds.Punctuator p) text = is_unsupported_mark p
is_unsupported_kind k text = false

-- a token is refused by name
unfoldable pub is_unsupported : Token → Bool
is_unsupported t = not t.is_ghost && is_unsupported_kind t.kind t.text

-- the place of the first token that is refused by name
abbrev pub first_unsupported : List Token → Option Place
first_unsupported [] = None
first_unsupported (t ∷ ts) = if is_unsupported t then Some t.place else first_unsupported ts
