-- Units without their annotations are read from the tokens of real text alone.
use Rattle.std.proofs.Common.{◌≡◌, ℕ, List, [], None, Result, Ok, Err, arith}
use Rattle.std.specs.Prelude.{IfOk}
use Rattle.vf_base.specs.declared.place.Place.{Place}
use Rattle.vf_lexer.specs.declared.token.Token.{Token}
use Rattle.vf_syntax.specs.declared.side.Grammar.TheVariants.{Plain, Whole}
use Rattle.vf_syntax.specs.declared.item.Item.{Item}
use Rattle.vf_syntax.specs.declared.item.Unit.{Unit as FileUnit}
use Rattle.vf_syntax.specs.Units.{Spells}
use Rattle.vf_cursor.specs.Parsing.{ok}
use Rattle.vf_parse_command.specs.Commands.{command_at}
use Rattle.vf_parse_command.proofs.CommandsRead.{command_sound}
use Rattle.vf_parse_ghost.specs.Clauses.{claim_at, contract_at, invariant_at}
use Rattle.vf_parse_ghost.specs.Items.{item_at}
use Rattle.vf_parse_ghost.proofs.ContractsRead.{claim_sound, contract_sound, invariant_sound}
use Rattle.vf_parse_ghost.proofs.ItemsRead.{item_sound}
use Rattle.vf_parse_real.specs.declared.fault.ParseFault.{ParseFault}
use Rattle.vf_parse_real.specs.Faults.{Answers}
use Rattle.vf_parse_real.specs.Units.{plain_at, real_tokens}
use Rattle.vf_parse_real.specs.Unsupported.{first_unsupported}
use Rattle.vf_parse_real.proofs.Sound.{unit_sound}
use Rattle.vf_parse_whole.specs.Wholes.{whole_at}
use Rattle.vf_grammar_read.specs.units.Laws.{IsRead}
use Rattle.vf_grammar_read.proofs.units.UnitFull.{plain_units_read}
use Rattle.vf_grammar_read.proofs.whole_units.WholeFull.{plain_answered}
use Rattle.vf_erasure_laws.specs.plain.Stripped.{stripped, stripped_items}
use Rattle.vf_erasure_laws.proofs.plain.UnitsKept.{unit_keeps}
use Rattle.vf_erasure_laws.proofs.plain.Nested.{unit_nests}

pub plain : (d : ℕ) (u : FileUnit) (ts : List Token) → Spells Whole d u ts → Spells Plain d (stripped u) (real_tokens ts)
plain d u ts s = record { spelled = (unit_keeps u).kept ts [] s.spelled; nested = omega (arith, unit_nests u, s.nested) }

whole_sound : (d : ℕ) (u : FileUnit) (ts : List Token) → whole_at d ts ≡ ok u.items [] → Spells Whole d u ts
whole_sound d u ts h = unit_sound Whole command_at invariant_at contract_at claim_at item_at command_sound invariant_sound contract_sound claim_sound item_sound d u ts h

pub read : (d : ℕ) (items : List Item) (ts : List Token) → whole_at d ts ≡ ok items [] → plain_at d (real_tokens ts) ≡ ok (stripped_items items) []
read d items ts h =
    let u : FileUnit = record { items = items; headers = [] } in
    plain_units_read d (stripped u) (real_tokens ts) (plain d u ts (whole_sound d u ts h))

pub answered : (whole : Result FileUnit ParseFault) (plain : Result FileUnit ParseFault) (end : Place) (ts : List Token) → IfOk whole (λ u. Spells Whole 128 u ts)
    → (first_unsupported ts ≡ None → Answers plain end (real_tokens ts) (plain_at 128 (real_tokens ts))) → IfOk whole (λ u. IsRead plain (stripped u))
answered (Ok u) r end ts s a = plain_answered r end (stripped u) ts a (plain 128 u ts s)
answered (Err f) r end ts s a = tt
