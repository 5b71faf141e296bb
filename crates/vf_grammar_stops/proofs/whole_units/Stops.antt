-- Where a token is refused, no unit could go on.
use Rattle.std.proofs.Common.{◌≡◌, ℕ, ◌+◌, ◌≤◌, false, List, [], Some, None, Result, Err, refl, sym, ◌∙◌, arith}
use Rattle.vf_base.specs.declared.place.Place.{Place}
use Rattle.vf_lexer.specs.declared.token.Token.{Token}
use Rattle.vf_syntax.specs.declared.side.Grammar.TheVariants.{Whole}
use Rattle.vf_syntax.specs.declared.item.Unit.{Unit as FileUnit}
use Rattle.vf_syntax.specs.Units.{unit, unit_nesting}
use Rattle.vf_cursor.specs.declared.fault.Fault.TheVariants.{Syntax}
use Rattle.vf_parse_real.specs.declared.fault.ParseFault.{ParseFault}
use Rattle.vf_parse_real.specs.declared.fault.ParseFault.TheVariants as parse_faults
use Rattle.vf_parse_real.specs.Unsupported.{first_unsupported}
use Rattle.vf_parse_command.specs.Commands.{command_at}
use Rattle.vf_parse_command.proofs.CommandsRead.{command_sound}
use Rattle.vf_parse_ghost.specs.Clauses.{claim_at, contract_at, invariant_at}
use Rattle.vf_parse_ghost.specs.Items.{item_at}
use Rattle.vf_parse_ghost.proofs.ContractsRead.{claim_sound, contract_sound, invariant_sound}
use Rattle.vf_parse_ghost.proofs.ItemsRead.{item_sound}
use Rattle.vf_parse_whole.specs.Wholes.{whole_at}
use Rattle.vf_grammar_read.proofs.units.UnitFull.{units_read}
use Rattle.vf_grammar_read.proofs.whole_units.WholeFull.{annotations}
use Rattle.vf_grammar_stops.specs.types.Stops.{BeginsUpTo}
use Rattle.vf_grammar_stops.proofs.types.Local.{Does, stops_too}
use Rattle.vf_grammar_stops.proofs.simple_statements.Stops.{apart}
use Rattle.vf_grammar_stops.proofs.assertions.Stops.{refuses_alike}
use Rattle.vf_grammar_stops.proofs.commands.CommandsAlike.{command_like}
use Rattle.vf_grammar_stops.proofs.ghost_items.ClausesAlike.{claim_like, contract_like, invariant_like}
use Rattle.vf_grammar_stops.proofs.ghost_items.ItemsAlike.{item_like}
use Rattle.vf_grammar_stops.specs.units.Laws.{NoUnitBegins}
use Rattle.vf_grammar_stops.proofs.units.ItemsAlike.{AlikeAnnotations, units_alike}
use Rattle.vf_grammar_stops.proofs.units.Stops.{answer_stops, supported}
use Rattle.vf_grammar_stops.specs.whole_units.Laws.{WholeUnitsRefuseAlike, AnswersWhole}

-- what annotations hold is read as it is spelled, and stops alike
annotations_alike : AlikeAnnotations command_at invariant_at contract_at claim_at item_at
annotations_alike = record {
  reads_commands = command_sound;
  reads_invariants = invariant_sound;
  reads_contracts = contract_sound;
  reads_claims = claim_sound;
  reads_items = item_sound;
  commands_alike = command_like;
  invariants_alike = invariant_like;
  contracts_alike = contract_like;
  claims_alike = claim_like;
  items_alike = item_like;
}

whole_like : (d m : ℕ) → d ≤ m → Does false (whole_at d) (whole_at m)
whole_like d m le = units_alike Whole command_at invariant_at contract_at claim_at item_at annotations_alike d m le

pub wholes_refuse : WholeUnitsRefuseAlike
wholes_refuse d m ts other n le e begins = refuses_alike whole_at whole_like d m ts other n le e begins

pub wholes_stop : (d : ℕ) (ts other : List Token) (k : ℕ) (u : FileUnit) → whole_at d ts ≡ Err (Syntax k) → BeginsUpTo ts k other → unit Whole u other ≡ Some [] → ⊥
wholes_stop d ts other k u e begins h =
    let m = d + unit_nesting u in
    let stop = stops_too {b = false} (whole_like d m (omega arith)) (Syntax k) tt ts other e begins in
    let read = units_read Whole command_at invariant_at contract_at claim_at item_at annotations m u other (record { spelled = h; nested = omega arith }) in
    apart u.items [] stop.0 (sym read ∙ stop.1)

pub refused_wholes : (result : Result FileUnit ParseFault) (end p : Place) (tokens : List Token) → AnswersWhole result end tokens → result ≡ Err (parse_faults.Syntax p) → (first_unsupported tokens ≡ None) × NoUnitBegins Whole tokens end p
refused_wholes result end p tokens a e =
    let none = supported result p tokens a.unsupported e (first_unsupported tokens) refl in
    (none, answer_stops Whole (whole_at 128) (whole_like 128 128 (omega arith)) (wholes_stop 128) result end p tokens (a.read none) e)
