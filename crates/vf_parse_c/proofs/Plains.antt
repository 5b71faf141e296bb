-- What is promised of an answer by the grammar without annotations.
use Rattle.std.proofs.Common.{◌≡◌, List, Some, None, Result, Err}
use Rattle.vf_base.specs.declared.place.Place.{Place}
use Rattle.vf_lexer.specs.declared.token.Token.{Token}
use Rattle.vf_syntax.specs.declared.side.Grammar.TheVariants.{Plain}
use Rattle.vf_syntax.specs.declared.item.Unit.{Unit as FileUnit}
use Rattle.vf_syntax.specs.Units.{Spells}
use Rattle.vf_parse_real.specs.declared.fault.ParseFault.{ParseFault}
use Rattle.vf_parse_real.specs.declared.fault.ParseFault.TheVariants as parse_faults
use Rattle.vf_parse_real.specs.Unsupported.{first_unsupported}
use Rattle.vf_parse_real.specs.Units.{plain_at, real_tokens}
use Rattle.vf_grammar_read.specs.units.Laws.{IsRead}
use Rattle.vf_grammar_read.proofs.whole_units.WholeFull.{plain_answered}
use Rattle.vf_grammar_stops.specs.units.Laws.{NoUnitBegins, AnswersPlain}
use Rattle.vf_grammar_stops.proofs.units.Stops.{refused_units}
use Rattle.vf_grammar_depth.specs.units.Deep.{GoesOnWith}
use Rattle.vf_grammar_depth.proofs.units.Places.{plain_units_rise, goes_on, file_deep}
use Rattle.vf_parse_c.proofs.Named as faults

pub only : (r : Result FileUnit ParseFault) (end : Place) (ts : List Token) → AnswersPlain r end ts → (u : FileUnit) → Spells Plain 128 u (real_tokens ts) → IsRead r u
only r end ts a u s = plain_answered r end u ts a.read s

pub named : (r : Result FileUnit ParseFault) (end : Place) (ts : List Token) → AnswersPlain r end ts → (p : Place) → r ≡ Err (parse_faults.Unsupported p) → first_unsupported ts ≡ Some p
named r end ts a p e = faults.named r end p (real_tokens ts) (plain_at 128 (real_tokens ts)) (first_unsupported ts) a.unsupported a.read e

pub syntax : (r : Result FileUnit ParseFault) (end : Place) (ts : List Token) → AnswersPlain r end ts → (p : Place) → r ≡ Err (parse_faults.Syntax p) → (first_unsupported ts ≡ None) × NoUnitBegins Plain (real_tokens ts) end p
syntax r end ts a p e = refused_units r end p ts a e

pub depth : (r : Result FileUnit ParseFault) (end : Place) (ts : List Token) → AnswersPlain r end ts → (p : Place) → r ≡ Err (parse_faults.Depth p) → (first_unsupported ts ≡ None) × GoesOnWith plain_at 128 (real_tokens ts) p
depth r end ts a p e =
    let us = real_tokens ts in
    file_deep (λ q. GoesOnWith plain_at 128 us q) (plain_at 128 us) us ts end p r (λ n deep. goes_on plain_at plain_units_rise 128 us end n deep) a.unsupported a.read e
