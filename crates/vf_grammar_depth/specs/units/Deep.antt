-- What is answered where items and units may nest deeper.
use Rattle.std.specs.Prelude.{◌≡◌, ℕ, suc, ◌<◌, List, ◌∷◌, ◌++◌, length, Some, None, Result, Err}
use Rattle.vf_base.specs.declared.place.Place.{Place}
use Rattle.vf_lexer.specs.declared.token.Token.{Token}
use Rattle.vf_syntax.specs.declared.side.Grammar.TheVariants.{Plain}
use Rattle.vf_syntax.specs.declared.item.Item.{Item}
use Rattle.vf_syntax.specs.declared.item.Unit.{Unit as FileUnit}
use Rattle.vf_cursor.specs.Parsing.{Parser, fails_at}
use Rattle.vf_parse_statement.specs.Annotations.{reads_none}
use Rattle.vf_parse_item.specs.Parsers.{item_at}
use Rattle.vf_parse_real.specs.declared.fault.ParseFault.{ParseFault}
use Rattle.vf_parse_real.specs.declared.fault.ParseFault.TheVariants as parse_faults
use Rattle.vf_parse_real.specs.Faults.{Answers}
use Rattle.vf_parse_real.specs.Units.{plain_at, real_tokens}
use Rattle.vf_parse_real.specs.Unsupported.{first_unsupported}
use Rattle.vf_grammar_depth.specs.expressions.Deep.{GoesPast, Deepens, IsNotTooDeep}

-- where more may nest, an item without annotations is answered alike, but past each token that was too deep; and nothing is too deep where more may nest than there are tokens
abbrev pub PlainItemsDeepen : Type 0
PlainItemsDeepen = (d m : ℕ) (ts : List Token) → d < m
    → Deepens (item_at Plain reads_none reads_none reads_none fails_at reads_none d ts) (item_at Plain reads_none reads_none reads_none fails_at reads_none m ts)
    × (length ts < m → IsNotTooDeep (item_at Plain reads_none reads_none reads_none fails_at reads_none m ts))

-- the same of a unit
abbrev pub PlainUnitsDeepen : Type 0
PlainUnitsDeepen = (d m : ℕ) (ts : List Token) → d < m → Deepens (plain_at d ts) (plain_at m ts) × (length ts < m → IsNotTooDeep (plain_at m ts))

-- a place is that of a token past which the parser goes wherever more than so much may nest: it reads a unit, or refuses another token further on, or the end; and enough may nest that nothing is too deep
pub record GoesOnWith (p : ℕ → Parser (List Item)) (limit : ℕ) (ts : List Token) (place : Place) : Type 0 where
  pub used : List Token
  pub next : Token
  pub behind : List Token
  pub parts : ts ≡ used ++ next ∷ behind
  pub place_is : place ≡ next.place
  pub past : (m : ℕ) → limit < m → GoesPast (suc (length behind)) (p m ts)
  pub decided : (m : ℕ) → limit < m → length ts < m → IsNotTooDeep (p m ts)

-- where an answer names a place as too deep, no token is unsupported, and the parser of the tokens of real text goes past the place where more may nest
abbrev pub TooDeepUnitsGoOn : Type 0
TooDeepUnitsGoOn = (result : Result FileUnit ParseFault) (end p : Place) (tokens : List Token) → ((q : Place) → first_unsupported tokens ≡ Some q → result ≡ Err (parse_faults.Unsupported q))
    → (first_unsupported tokens ≡ None → Answers result end (real_tokens tokens) (plain_at 128 (real_tokens tokens)))
    → result ≡ Err (parse_faults.Depth p) → (first_unsupported tokens ≡ None) × GoesOnWith plain_at 128 (real_tokens tokens) p
