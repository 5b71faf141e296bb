-- What is answered where units of the whole grammar may nest deeper.
use Rattle.std.specs.Prelude.{◌≡◌, ℕ, suc, ◌+◌, ◌<◌, List, ◌∷◌, ◌++◌, length, Some, None, Result, Err}
use Rattle.vf_base.specs.declared.place.Place.{Place}
use Rattle.vf_lexer.specs.declared.token.Token.{Token}
use Rattle.vf_syntax.specs.declared.item.Unit.{Unit as FileUnit}
use Rattle.vf_parse_real.specs.declared.fault.ParseFault.{ParseFault}
use Rattle.vf_parse_real.specs.declared.fault.ParseFault.TheVariants as parse_faults
use Rattle.vf_parse_real.specs.Faults.{Answers}
use Rattle.vf_parse_real.specs.Unsupported.{first_unsupported}
use Rattle.vf_parse_whole.specs.Wholes.{whole_at}
use Rattle.vf_grammar_depth.specs.expressions.Deep.{GoesPast, Deepens, IsNotTooDeep}

-- where two more may nest, a unit is answered alike, but past each token that was too deep; and nothing is too deep where more may nest than twice as many as there are tokens, and one
abbrev pub WholeUnitsDeepen : Type 0
WholeUnitsDeepen = (d m : ℕ) (ts : List Token) → suc d < m → Deepens (whole_at d ts) (whole_at m ts) × (suc (length ts + length ts) < m → IsNotTooDeep (whole_at m ts))

-- a place is that of a token past which the parser goes wherever two more than so much may nest, or more: it reads a unit, or refuses another token further on, or the end; and enough may nest that nothing is too deep
pub record WholeGoesOn (limit : ℕ) (ts : List Token) (place : Place) : Type 0 where
  pub used : List Token
  pub next : Token
  pub behind : List Token
  pub parts : ts ≡ used ++ next ∷ behind
  pub place_is : place ≡ next.place
  pub past : (m : ℕ) → suc limit < m → GoesPast (suc (length behind)) (whole_at m ts)
  pub decided : (m : ℕ) → suc limit < m → suc (length ts + length ts) < m → IsNotTooDeep (whole_at m ts)

-- where an answer names a place as too deep, no token is unsupported, and the parser goes past the place where two more may nest
abbrev pub TooDeepWholesGoOn : Type 0
TooDeepWholesGoOn = (result : Result FileUnit ParseFault) (end p : Place) (tokens : List Token) → ((q : Place) → first_unsupported tokens ≡ Some q → result ≡ Err (parse_faults.Unsupported q))
    → (first_unsupported tokens ≡ None → Answers result end tokens (whole_at 128 tokens))
    → result ≡ Err (parse_faults.Depth p) → (first_unsupported tokens ≡ None) × WholeGoesOn 128 tokens p
