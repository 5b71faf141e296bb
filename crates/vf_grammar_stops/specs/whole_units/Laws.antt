-- Where a token is refused, no unit could go on.
use Rattle.std.specs.Prelude.{◌≡◌, ℕ, List, [], Some, None, Result, Err}
use Rattle.vf_base.specs.declared.place.Place.{Place}
use Rattle.vf_lexer.specs.declared.token.Token.{Token}
use Rattle.vf_syntax.specs.declared.side.Grammar.TheVariants.{Whole}
use Rattle.vf_syntax.specs.declared.item.Unit.{Unit as FileUnit}
use Rattle.vf_syntax.specs.Units.{unit}
use Rattle.vf_cursor.specs.declared.fault.Fault.TheVariants.{Syntax}
use Rattle.vf_parse_real.specs.declared.fault.ParseFault.{ParseFault}
use Rattle.vf_parse_real.specs.declared.fault.ParseFault.TheVariants as parse_faults
use Rattle.vf_parse_real.specs.Faults.{Answers}
use Rattle.vf_parse_real.specs.Unsupported.{first_unsupported}
use Rattle.vf_parse_whole.specs.Wholes.{whole_at}
use Rattle.vf_grammar_stops.specs.types.Stops.{BeginsUpTo}
use Rattle.vf_grammar_stops.specs.assertions.Laws.{RefusesAlike}
use Rattle.vf_grammar_stops.specs.units.Laws.{NoUnitBegins}

-- where a token is refused in a unit, one is refused in all tokens that are alike up to it, also where more may nest
abbrev pub WholeUnitsRefuseAlike : Type 0
WholeUnitsRefuseAlike = RefusesAlike whole_at

-- a token, or the end of the tokens, is refused in a unit only where no tokens that are alike up to it are a unit, however deep it nests
abbrev pub WholeUnitsStopAlike : Type 0
WholeUnitsStopAlike = (d : ℕ) (ts other : List Token) (k : ℕ) (u : FileUnit) → whole_at d ts ≡ Err (Syntax k) → BeginsUpTo ts k other → unit Whole u other ≡ Some [] → ⊥

-- what is known of an answer on the tokens of a file: it names the first token that is unsupported, and where there is none, it is what reading the tokens comes to
pub record AnswersWhole (result : Result FileUnit ParseFault) (end : Place) (tokens : List Token) : Type 0 where
  pub unsupported : (p : Place) → first_unsupported tokens ≡ Some p → result ≡ Err (parse_faults.Unsupported p)
  pub read : first_unsupported tokens ≡ None → Answers result end tokens (whole_at 128 tokens)

-- where an answer refuses a place, no token is unsupported, and no unit begins with the tokens up to the place
abbrev pub RefusedWholesDoNotBegin : Type 0
RefusedWholesDoNotBegin = (result : Result FileUnit ParseFault) (end p : Place) (tokens : List Token) → AnswersWhole result end tokens → result ≡ Err (parse_faults.Syntax p) → (first_unsupported tokens ≡ None) × NoUnitBegins Whole tokens end p
