-- The tokens of real text spell a unit without its annotations.
use Rattle.std.specs.Prelude.{◌≡◌, ℕ, List, [], None, Result, IfOk}
use Rattle.vf_base.specs.declared.place.Place.{Place}
use Rattle.vf_lexer.specs.declared.token.Token.{Token}
use Rattle.vf_syntax.specs.declared.side.Grammar.TheVariants.{Plain, Whole}
use Rattle.vf_syntax.specs.declared.item.Item.{Item}
use Rattle.vf_syntax.specs.declared.item.Unit.{Unit as FileUnit}
use Rattle.vf_syntax.specs.Units.{Spells}
use Rattle.vf_cursor.specs.Parsing.{ok}
use Rattle.vf_parse_real.specs.declared.fault.ParseFault.{ParseFault}
use Rattle.vf_parse_real.specs.Faults.{Answers}
use Rattle.vf_parse_real.specs.Units.{plain_at, real_tokens}
use Rattle.vf_parse_real.specs.Unsupported.{first_unsupported}
use Rattle.vf_parse_whole.specs.Wholes.{whole_at}
use Rattle.vf_grammar_read.specs.units.Laws.{IsRead}
use Rattle.vf_erasure_laws.specs.plain.Stripped.{stripped, stripped_items}

-- where tokens spell a unit, those of real text spell it without its annotations, and nest no deeper than it may
abbrev pub WholesArePlain : Type 0
WholesArePlain = (d : ℕ) (u : FileUnit) (tokens : List Token) → Spells Whole d u tokens → Spells Plain d (stripped u) (real_tokens tokens)

-- a unit that tokens spell by the grammar without annotations is the same without its annotations
abbrev pub PlainUnitsStay : Type 0
PlainUnitsStay = (d : ℕ) (u : FileUnit) (tokens : List Token) → Spells Plain d u tokens → stripped u ≡ u

-- where tokens are read as items to their end, those of real text are read as the same items without their annotations
abbrev pub PlainReadingsAreStripped : Type 0
PlainReadingsAreStripped = (d : ℕ) (items : List Item) (tokens : List Token) → whole_at d tokens ≡ ok items [] → plain_at d (real_tokens tokens) ≡ ok (stripped_items items) []

-- of two answers that the contracts of the parsers allow, the one of the whole language and the one of real text alone: where the first is a unit, the second is its items without their annotations, unless memory ran out; so there is no refusal
abbrev pub PlainAnswersAreStripped : Type 0
PlainAnswersAreStripped = (whole : Result FileUnit ParseFault) (plain : Result FileUnit ParseFault) (end : Place) (tokens : List Token) → IfOk whole (λ u. Spells Whole 128 u tokens)
    → (first_unsupported tokens ≡ None → Answers plain end (real_tokens tokens) (plain_at 128 (real_tokens tokens))) → IfOk whole (λ u. IsRead plain (stripped u))
