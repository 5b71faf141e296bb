-- Where a token is refused, no item and no unit could go on.
use Rattle.std.specs.Prelude.{◌≡◌, ℕ, List, [], ◌++◌, Some, None, Result, Err}
use Rattle.vf_base.specs.declared.place.Place.{Place}
use Rattle.vf_lexer.specs.declared.token.Token.{Token}
use Rattle.vf_syntax.specs.declared.side.Grammar.{Grammar}
use Rattle.vf_syntax.specs.declared.side.Grammar.TheVariants.{Plain}
use Rattle.vf_syntax.specs.declared.item.Item.{Item}
use Rattle.vf_syntax.specs.declared.item.Unit.{Unit as FileUnit}
use Rattle.vf_syntax.specs.Units.{item, unit}
use Rattle.vf_cursor.specs.declared.fault.Fault.TheVariants.{Syntax}
use Rattle.vf_cursor.specs.Parsing.{fails_at}
use Rattle.vf_parse_statement.specs.Annotations.{reads_none}
use Rattle.vf_parse_item.specs.Parsers.{item_at}
use Rattle.vf_parse_real.specs.declared.fault.ParseFault.{ParseFault}
use Rattle.vf_parse_real.specs.declared.fault.ParseFault.TheVariants as parse_faults
use Rattle.vf_parse_real.specs.Faults.{place_or, Answers}
use Rattle.vf_parse_real.specs.Units.{plain_at, real_tokens}
use Rattle.vf_parse_real.specs.Unsupported.{first_unsupported}
use Rattle.vf_grammar_stops.specs.types.Stops.{first, BeginsUpTo}

-- a token is refused in an item without annotations only where no tokens that are alike up to it begin with such an item, however deep it nests
abbrev pub PlainItemsStopAlike : Type 0
PlainItemsStopAlike = (d : ℕ) (ts other rest : List Token) (k : ℕ) (x : Item) → item_at Plain reads_none reads_none reads_none fails_at reads_none d ts ≡ Err (Syntax k) → BeginsUpTo ts k other → item Plain x other ≡ Some rest → ⊥

-- a token, or the end of the tokens, is refused in a unit without annotations only where no tokens that are alike up to it are such a unit, however deep it nests
abbrev pub PlainUnitsStopAlike : Type 0
PlainUnitsStopAlike = (d : ℕ) (ts other : List Token) (k : ℕ) (u : FileUnit) → plain_at d ts ≡ Err (Syntax k) → BeginsUpTo ts k other → unit Plain u other ≡ Some [] → ⊥

-- a place is that of a token, or the end, and no unit is spelled by tokens that begin with those in front of the place and the one there, or that are all of them where it is the end
pub record NoUnitBegins (g : Grammar) (ts : List Token) (end p : Place) : Type 0 where
  pub used : List Token
  pub left : List Token
  pub parts : ts ≡ used ++ left
  pub place_is : p ≡ place_or end (first left)
  pub none_begins : (others : List Token) (u : FileUnit) → first others ≡ first left → unit g u (used ++ others) ≡ Some [] → ⊥

-- what is known of an answer on the tokens of a file: it names the first token that is unsupported, and where there is none, it is what reading the tokens of real text comes to
pub record AnswersPlain (result : Result FileUnit ParseFault) (end : Place) (tokens : List Token) : Type 0 where
  pub unsupported : (p : Place) → first_unsupported tokens ≡ Some p → result ≡ Err (parse_faults.Unsupported p)
  pub read : first_unsupported tokens ≡ None → Answers result end (real_tokens tokens) (plain_at 128 (real_tokens tokens))

-- where an answer refuses a place, no token is unsupported, and no unit begins with the tokens of real text up to the place
abbrev pub RefusedUnitsDoNotBegin : Type 0
RefusedUnitsDoNotBegin = (result : Result FileUnit ParseFault) (end p : Place) (tokens : List Token) → AnswersPlain result end tokens → result ≡ Err (parse_faults.Syntax p) → (first_unsupported tokens ≡ None) × NoUnitBegins Plain (real_tokens tokens) end p
