-- Units with annotations that are spelled are read.
use Rattle.std.proofs.Common.{◌≡◌, ℕ, ◌+◌, ◌≤◌, List, [], None, Result, Ok, Err, sym, ◌∙◌, arith}
use Rattle.vf_base.specs.declared.place.Place.{Place}
use Rattle.vf_lexer.specs.declared.token.Token.{Token}
use Rattle.vf_syntax.specs.declared.side.Grammar.TheVariants.{Plain, Whole}
use Rattle.vf_syntax.specs.declared.item.Unit.{Unit as FileUnit}
use Rattle.vf_syntax.specs.Units.{Spells}
use Rattle.vf_cursor.specs.Parsing.{ok}
use Rattle.vf_cursor.proofs.Facts.{ok_pair}
use Rattle.vf_parse_command.specs.Commands.{command_at}
use Rattle.vf_parse_ghost.specs.Clauses.{claim_at, contract_at, invariant_at}
use Rattle.vf_parse_ghost.specs.Items.{item_at}
use Rattle.vf_parse_real.specs.declared.fault.ParseFault.{ParseFault}
use Rattle.vf_parse_real.specs.declared.fault.ParseFault.TheVariants as parse_faults
use Rattle.vf_parse_real.specs.Faults.{Answers}
use Rattle.vf_parse_real.specs.Units.{plain_at, real_tokens}
use Rattle.vf_parse_real.specs.Unsupported.{first_unsupported}
use Rattle.vf_parse_whole.specs.Wholes.{whole_at}
use Rattle.vf_grammar_read.specs.statements.Annotations.{FullTexts}
use Rattle.vf_grammar_read.specs.units.Annotations.{FullAnnotations}
use Rattle.vf_grammar_read.specs.units.Laws.{IsRead}
use Rattle.vf_grammar_read.proofs.units.UnitFull.{units_read}
use Rattle.vf_grammar_read.proofs.units.Answered.{no_fault}
use Rattle.vf_grammar_read.proofs.units.Answered as plain
use Rattle.vf_grammar_read.proofs.commands.CommandsFull.{command_full}
use Rattle.vf_grammar_read.proofs.ghost_items.Clauses.{claim_full, contract_full, invariant_full}
use Rattle.vf_grammar_read.proofs.ghost_items.ItemsFull as items
use Rattle.vf_grammar_read.proofs.supported.Clean.{real_supported}
use Rattle.vf_grammar_read.proofs.supported.UnitsClean.{unit_clean}

texts : FullTexts Whole command_at invariant_at
texts = record { commands_are_read = λ w d x ts rest h deep none. command_full d x ts rest h deep none; invariants_are_read = λ w d x ts rest h deep. invariant_full d x ts rest h deep }

pub annotations : FullAnnotations Whole command_at invariant_at contract_at claim_at item_at
annotations = record { texts = texts; contracts_are_read = λ w d x ts rest h deep. contract_full d x ts rest h deep; claims_are_read = λ w x ts rest h. claim_full x ts rest h; items_are_read = λ w d x ts rest h deep. items.item_full d x ts rest h deep }

pub whole_read : (d : ℕ) (u : FileUnit) (ts : List Token) → Spells Whole d u ts → whole_at d ts ≡ ok u.items []
whole_read d u ts s = units_read Whole command_at invariant_at contract_at claim_at item_at annotations d u ts s

deeper : (d e : ℕ) (u : FileUnit) (ts : List Token) → d ≤ e → Spells Whole d u ts → Spells Whole e u ts
deeper d e u ts h s = record { spelled = s.spelled; nested = omega (arith, h, s.nested) }

pub one_unit : (d e : ℕ) (u v : FileUnit) (ts : List Token) → Spells Whole d u ts → Spells Whole e v ts → u.items ≡ v.items
one_unit d e u v ts s t =
    let one = whole_read (d + e) u ts (deeper d (d + e) u ts (omega arith) s) in
    let two = whole_read (d + e) v ts (deeper e (d + e) v ts (omega arith) t) in
    (ok_pair u.items v.items [] [] (sym one ∙ two)).0

answered_by : (r : Result FileUnit ParseFault) (end : Place) (u : FileUnit) (ts : List Token) → Answers r end ts (whole_at 128 ts) → Spells Whole 128 u ts → IsRead r u
answered_by (Ok v) end u ts a s = (ok_pair v.items u.items [] [] (sym a ∙ whole_read 128 u ts s)).0
answered_by (Err parse_faults.Memory) end u ts a s = tt
answered_by (Err (parse_faults.Unsupported p)) end u ts a s = no_fault a.0 u.items (whole_at 128 ts) a.1 (whole_read 128 u ts s)
answered_by (Err (parse_faults.Syntax p)) end u ts a s = no_fault a.0 u.items (whole_at 128 ts) a.1 (whole_read 128 u ts s)
answered_by (Err (parse_faults.Depth p)) end u ts a s = no_fault a.0 u.items (whole_at 128 ts) a.1 (whole_read 128 u ts s)

pub answered : (r : Result FileUnit ParseFault) (end : Place) (u : FileUnit) (ts : List Token) → (first_unsupported ts ≡ None → Answers r end ts (whole_at 128 ts)) → Spells Whole 128 u ts → IsRead r u
answered r end u ts a s = answered_by r end u ts (a ((unit_clean Whole u).clean ts [] s.spelled)) s

pub plain_answered : (r : Result FileUnit ParseFault) (end : Place) (u : FileUnit) (ts : List Token) → (first_unsupported ts ≡ None → Answers r end (real_tokens ts) (plain_at 128 (real_tokens ts))) → Spells Plain 128 u (real_tokens ts) → IsRead r u
plain_answered r end u ts a s = plain.answered r end u (real_tokens ts) (a (real_supported ts ∙ (unit_clean Plain u).clean (real_tokens ts) [] s.spelled)) s
