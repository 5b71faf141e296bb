-- What is spelled is read.
use Rattle.std.specs.Prelude.{◌≡◌, ℕ, List, [], None, Result}
use Rattle.vf_base.specs.declared.place.Place.{Place}
use Rattle.vf_lexer.specs.declared.token.Token.{Token}
use Rattle.vf_syntax.specs.declared.side.Grammar.TheVariants.{Plain, Whole}
use Rattle.vf_syntax.specs.declared.item.Unit.{Unit as FileUnit}
use Rattle.vf_syntax.specs.Units.{Spells}
use Rattle.vf_cursor.specs.Parsing.{ok}
use Rattle.vf_parse_command.specs.Commands.{command_at}
use Rattle.vf_parse_ghost.specs.Clauses.{claim_at, contract_at, invariant_at}
use Rattle.vf_parse_ghost.specs.Items.{item_at}
use Rattle.vf_parse_real.specs.declared.fault.ParseFault.{ParseFault}
use Rattle.vf_parse_real.specs.Faults.{Answers}
use Rattle.vf_parse_real.specs.Units.{plain_at, real_tokens}
use Rattle.vf_parse_real.specs.Unsupported.{first_unsupported}
use Rattle.vf_parse_whole.specs.Wholes.{whole_at}
use Rattle.vf_grammar_read.specs.units.Annotations.{FullAnnotations}
use Rattle.vf_grammar_read.specs.units.Laws.{IsRead}

-- the parsers of annotations read every command, invariant, contract, claim and item that tokens spell and that nests no deeper than it may
abbrev pub AnnotationsAreRead : Type 0
AnnotationsAreRead = FullAnnotations Whole command_at invariant_at contract_at claim_at item_at

-- a unit that tokens spell, and that nests no deeper than it may, is read from them
abbrev pub UnitsAreRead : Type 0
UnitsAreRead = (d : ℕ) (u : FileUnit) (tokens : List Token) → Spells Whole d u tokens → whole_at d tokens ≡ ok u.items []

-- two units that the same tokens spell have the same items, places included
abbrev pub UnitsHaveOneReading : Type 0
UnitsHaveOneReading = (d e : ℕ) (u v : FileUnit) (tokens : List Token) → Spells Whole d u tokens → Spells Whole e v tokens → u.items ≡ v.items

-- where tokens spell a unit within 128 levels, every answer that the contract of the parser allows is its items, unless memory ran out; so there is no refusal
abbrev pub SpelledUnitsAreAnswered : Type 0
SpelledUnitsAreAnswered = (result : Result FileUnit ParseFault) (end : Place) (u : FileUnit) (tokens : List Token) → (first_unsupported tokens ≡ None → Answers result end tokens (whole_at 128 tokens)) → Spells Whole 128 u tokens → IsRead result u

-- the same of the tokens of real text, by the grammar without annotations
abbrev pub PlainUnitsAreAnswered : Type 0
PlainUnitsAreAnswered = (result : Result FileUnit ParseFault) (end : Place) (u : FileUnit) (tokens : List Token) → (first_unsupported tokens ≡ None → Answers result end (real_tokens tokens) (plain_at 128 (real_tokens tokens))) → Spells Plain 128 u (real_tokens tokens) → IsRead result u
