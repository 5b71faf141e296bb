-- What is promised of an answer by the whole grammar.
use Rattle.std.proofs.Common.{◌≡◌, List, Some, None, Result, Err}
use Rattle.vf_base.specs.declared.place.Place.{Place}
use Rattle.vf_lexer.specs.declared.token.Token.{Token}
use Rattle.vf_syntax.specs.declared.side.Grammar.TheVariants.{Whole}
use Rattle.vf_syntax.specs.declared.item.Unit.{Unit as FileUnit}
use Rattle.vf_syntax.specs.Units.{Spells}
use Rattle.vf_parse_real.specs.declared.fault.ParseFault.{ParseFault}
use Rattle.vf_parse_real.specs.declared.fault.ParseFault.TheVariants as parse_faults
use Rattle.vf_parse_real.specs.Unsupported.{first_unsupported}
use Rattle.vf_parse_whole.specs.Wholes.{whole_at}
use Rattle.vf_grammar_read.specs.units.Laws.{IsRead}
use Rattle.vf_grammar_read.proofs.whole_units.WholeFull.{answered}
use Rattle.vf_grammar_stops.specs.units.Laws.{NoUnitBegins}
use Rattle.vf_grammar_stops.specs.whole_units.Laws.{AnswersWhole}
use Rattle.vf_grammar_stops.proofs.whole_units.Stops.{refused_wholes}
use Rattle.vf_grammar_depth.proofs.units.Places.{file_deep}
use Rattle.vf_grammar_depth.specs.whole_units.Deep.{WholeGoesOn}
use Rattle.vf_grammar_depth.proofs.whole_units.Whole.{whole_goes_on}
use Rattle.vf_parse_c.proofs.Named as faults

pub only : (r : Result FileUnit ParseFault) (end : Place) (ts : List Token) → AnswersWhole r end ts → (u : FileUnit) → Spells Whole 128 u ts → IsRead r u
only r end ts a u s = answered r end u ts a.read s

pub named : (r : Result FileUnit ParseFault) (end : Place) (ts : List Token) → AnswersWhole r end ts → (p : Place) → r ≡ Err (parse_faults.Unsupported p) → first_unsupported ts ≡ Some p
named r end ts a p e = faults.named r end p ts (whole_at 128 ts) (first_unsupported ts) a.unsupported a.read e

pub syntax : (r : Result FileUnit ParseFault) (end : Place) (ts : List Token) → AnswersWhole r end ts → (p : Place) → r ≡ Err (parse_faults.Syntax p) → (first_unsupported ts ≡ None) × NoUnitBegins Whole ts end p
syntax r end ts a p e = refused_wholes r end p ts a e

pub depth : (r : Result FileUnit ParseFault) (end : Place) (ts : List Token) → AnswersWhole r end ts → (p : Place) → r ≡ Err (parse_faults.Depth p) → (first_unsupported ts ≡ None) × WholeGoesOn 128 ts p
depth r end ts a p e = file_deep (λ q. WholeGoesOn 128 ts q) (whole_at 128 ts) ts ts end p r (λ n deep. whole_goes_on 128 ts end n deep) a.unsupported a.read e
