-- Tokens of no text, which spell a unit with a `#` in a name.
use Rattle.std.specs.Prelude.{ℕ, ◌+◌, false, List, [], ◌∷◌, codes, length, None}
use Rattle.vf_base.specs.declared.place.Place.{Place}
use Rattle.vf_lexer.specs.declared.punctuator.Punctuator.TheVariants as punctuators
use Rattle.vf_lexer.specs.declared.token.Kind.{Kind}
use Rattle.vf_lexer.specs.declared.token.Kind.TheVariants as kinds
use Rattle.vf_lexer.specs.declared.token.Token.{Token}
use Rattle.vf_syntax.specs.declared.item.Item.TheVariants as items
use Rattle.vf_syntax.specs.declared.item.Parameters.TheVariants as parameters
use Rattle.vf_syntax.specs.declared.item.Unit.{Unit as FileUnit}
use Rattle.vf_syntax.specs.declared.side.Grammar.TheVariants.{Plain}
use Rattle.vf_syntax.specs.declared.written.ResultType.TheVariants as results
use Rattle.vf_syntax.specs.Units.{Spells}
use Rattle.vf_fixpoint_laws.specs.well_declared.Names.{AreUnmarked}
use Rattle.vf_fixpoint_laws.specs.identifiers.Names.{NamesAreWords}

-- the place of a column of the first line
abbrev pub place_of : ℕ → Place
place_of column = record { file = 0; line = 1; column = column }

-- a token of real text that begins behind so many bytes of the first line
abbrev pub token_at : ℕ → Kind → List ℕ → Token
token_at start kind text = record { kind = kind; text = text; start = start; «end» = start + length text; place = place_of (start + 1); is_ghost = false }

-- `void` NAME `();`, by five tokens
abbrev pub declaring : List ℕ → List Token
declaring x = token_at 0 kinds.Name (codes "void") ∷ token_at 5 kinds.Name x ∷ token_at 8 (kinds.Punctuator punctuators.OpenParenthesis) (codes "(") ∷ token_at 9 (kinds.Punctuator punctuators.CloseParenthesis) (codes ")") ∷ token_at 10 (kinds.Punctuator punctuators.Semicolon) (codes ";") ∷ []

-- the unit of one function with this name
abbrev pub unit_of : List ℕ → FileUnit
unit_of x = record { items = items.Prototype (record { «result» = results.Void (place_of 1); name = record { text = x; place = place_of 6 }; parameters = parameters.Listed [] }) None None ∷ []; headers = [] }

-- a token whose kind is that of names and in whose text a `#` stands makes a unit whose names are marked; but the names among its tokens are no words, and with another text they are
pub record MarkedTokensSpellMarkedUnits : Type 0 where
  pub spelled : Spells Plain 0 (unit_of (codes "a#b")) (declaring (codes "a#b"))
  pub marked : AreUnmarked (unit_of (codes "a#b")).items → ⊥
  pub no_words : NamesAreWords (declaring (codes "a#b")) → ⊥
  pub plainly : Spells Plain 0 (unit_of (codes "a_b")) (declaring (codes "a_b"))
  pub words : NamesAreWords (declaring (codes "a_b"))
