-- A parser that reads a unit answers with it.
use Rattle.std.proofs.Common.{◌≡◌, List, [], Result, Ok, Err, sym, ◌∙◌}
use Rattle.vf_base.specs.declared.place.Place.{Place}
use Rattle.vf_lexer.specs.declared.token.Token.{Token}
use Rattle.vf_syntax.specs.declared.side.Grammar.TheVariants.{Plain}
use Rattle.vf_syntax.specs.declared.item.Item.{Item}
use Rattle.vf_syntax.specs.declared.item.Unit.{Unit as FileUnit}
use Rattle.vf_syntax.specs.Units.{Spells}
use Rattle.vf_cursor.specs.declared.fault.Fault.{Fault}
use Rattle.vf_cursor.specs.Parsing.{Read, ok}
use Rattle.vf_cursor.proofs.Facts.{ok_pair}
use Rattle.vf_parse_real.specs.declared.fault.ParseFault.{ParseFault}
use Rattle.vf_parse_real.specs.declared.fault.ParseFault.TheVariants as parse_faults
use Rattle.vf_parse_real.specs.Faults.{Answers}
use Rattle.vf_parse_real.specs.Units.{plain_at}
use Rattle.vf_grammar_read.specs.units.Laws.{IsRead}
use Rattle.vf_grammar_read.proofs.units.UnitFull.{plain_units_read}

apart : (f : Fault) (xs : List Item) → Err f ≡ ok xs [] → ⊥
apart f xs e = cc

pub no_fault : {Y : Type 0} (f : Fault) (xs : List Item) (read : Read (List Item)) → read ≡ Err f → read ≡ ok xs [] → Y
no_fault f xs read h k = absurd (apart f xs (sym h ∙ k))

pub answered : (r : Result FileUnit ParseFault) (end : Place) (u : FileUnit) (ts : List Token) → Answers r end ts (plain_at 128 ts) → Spells Plain 128 u ts → IsRead r u
answered (Ok v) end u ts a s = (ok_pair v.items u.items [] [] (sym a ∙ plain_units_read 128 u ts s)).0
answered (Err parse_faults.Memory) end u ts a s = tt
answered (Err (parse_faults.Unsupported p)) end u ts a s = no_fault a.0 u.items (plain_at 128 ts) a.1 (plain_units_read 128 u ts s)
answered (Err (parse_faults.Syntax p)) end u ts a s = no_fault a.0 u.items (plain_at 128 ts) a.1 (plain_units_read 128 u ts s)
answered (Err (parse_faults.Depth p)) end u ts a s = no_fault a.0 u.items (plain_at 128 ts) a.1 (plain_units_read 128 u ts s)
