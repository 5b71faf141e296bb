-- From the tokens of a unit to its items, or to its first refusal.
use Rattle.std.specs.Prelude.{List, Option, Some, None, Result, Ok, Err}
use Rattle.vf_base.specs.declared.place.Place.{Place}
use Rattle.vf_base.specs.declared.rule.Rule.{Rule}
use Rattle.vf_base.specs.declared.rule.Rule.TheVariants.{Syntax, Depth, Unsupported}
use Rattle.vf_base.specs.declared.refusal.Refusal.{Refusal}
use Rattle.vf_base.specs.declared.refusal.Shown.TheVariants.{Nothing}
use Rattle.vf_lexer.specs.declared.token.Token.{Token}
use Rattle.vf_preproc.specs.UnitText.{Text_of_unit}
use Rattle.vf_syntax.specs.declared.item.Item.{Item}
use Rattle.vf_cursor.specs.declared.fault.Fault.{Fault as ReadFault}
use Rattle.vf_cursor.specs.declared.fault.Fault.TheVariants as read_faults
use Rattle.vf_cursor.specs.Parsing.{Read}
use Rattle.vf_parse_real.specs.declared.fault.ParseFault.{ParseFault}
use Rattle.vf_parse_real.specs.declared.fault.ParseFault.TheVariants as parse_faults
use Rattle.vf_parse_real.specs.Faults.{place_at}
use Rattle.vf_parse_real.specs.Unsupported.{first_unsupported}
use Rattle.vf_parse_whole.specs.Wholes.{whole_at}
use Rattle.vf_module.specs.declared.parsing.Parsed.{Parsed}
use Rattle.vf_module.specs.declared.parsing.Parsed.TheVariants as answers

-- a refusal by a rule at a place, which shows nothing beside them
abbrev pub refusal_at : Rule → Place → Refusal
refusal_at rule place = record { rule = rule; place = place; shown = Nothing }

-- where reading tokens to their end stops: a token that cannot stand there, or one that stands too deep
abbrev pub refusal_of : Place → List Token → ReadFault → Refusal
refusal_of end ts (read_faults.Syntax n) = refusal_at Syntax (place_at ts end n)
refusal_of end ts (read_faults.Depth n) = refusal_at Depth (place_at ts end n)

-- what was read, or where reading stopped
abbrev pub items_or : Place → List Token → Read (List Item) → Result (List Item) Refusal
items_or end ts (Ok x) = Ok x.0
items_or end ts (Err f) = Err (refusal_of end ts f)

-- the items of tokens, of which none is refused by name
abbrev pub items_unless : Place → List Token → Option Place → Result (List Item) Refusal
items_unless end ts (Some place) = Err (refusal_at Unsupported place)
items_unless end ts None = items_or end ts (whole_at 128 ts)

-- the items of a unit by the whole grammar, nested at most 128 deep, or its first refusal
abbrev pub items_of : Text_of_unit → Result (List Item) Refusal
items_of unit = items_unless unit.end_of_file unit.tokens (first_unsupported unit.tokens)

-- the refusal for a fault of the parser, but for want of memory
abbrev pub refused : ParseFault → Option Refusal
refused (parse_faults.Unsupported place) = Some (refusal_at Unsupported place)
refused (parse_faults.Syntax place) = Some (refusal_at Syntax place)
refused (parse_faults.Depth place) = Some (refusal_at Depth place)
refused parse_faults.Memory = None

-- what is answered of parsing
abbrev pub parsed_items : Parsed → Result (List Item) Refusal
parsed_items (answers.Unit unit) = Ok unit.items
parsed_items (answers.Refused refusal) = Err refusal
