-- The heads of cases that are read are spelled.
use Rattle.std.proofs.Common.{◌≡◌, List, Some}
use Rattle.vf_base.specs.declared.place.Place.{Place}
use Rattle.vf_lexer.specs.declared.punctuator.Punctuator.TheVariants as punctuators
use Rattle.vf_lexer.specs.declared.token.Token.{Token}
use Rattle.vf_syntax.specs.declared.keyword.Keyword.TheVariants as keywords
use Rattle.vf_syntax.specs.declared.side.Side.TheVariants.{Ghost}
use Rattle.vf_syntax.specs.declared.pattern.CasePattern.{CasePattern}
use Rattle.vf_syntax.specs.Walks.{at, mark, word}
use Rattle.vf_syntax.specs.Assertions.{case_pattern}
use Rattle.vf_cursor.specs.Parsing.{ok, mark_at, word_at}
use Rattle.vf_cursor.proofs.Facts.{bind_ok, moved}
use Rattle.vf_parse_term.proofs.Taken.{mark_sound, word_sound}
use Rattle.vf_parse_pattern.specs.Patterns.{case_pattern_at}
use Rattle.vf_parse_pattern.proofs.PatternsRead.{case_pattern_sound}
use Rattle.vf_parse_assertion.specs.Parsers.{case_head_at}

-- what stands in a case up to its ":"
pub record CaseHead (ts : List Token) (p : Place) (k : CasePattern) (rest : List Token) : Type 0 where
  pub worded : List Token
  pub named : List Token
  pub here : at p ts ≡ Some ts
  pub cases : word Ghost keywords.Case ts ≡ Some worded
  pub pattern : case_pattern k worded ≡ Some named
  pub colon : mark Ghost punctuators.Colon named ≡ Some rest

pub case_head_sound : (ts : List Token) (h : Place × CasePattern) (rest : List Token) → case_head_at ts ≡ ok h rest → CaseHead ts h.0 h.1 rest
unfolding case_head_at
case_head_sound ts h rest eq =
    let w = bind_ok {r = word_at Ghost keywords.Case ts} eq in
    let c = bind_ok {r = case_pattern_at w.0.1} w.2 in
    let k = bind_ok {r = mark_at Ghost punctuators.Colon c.0.1} c.2 in
    let first = word_sound Ghost keywords.Case ts w.0.0 w.0.1 w.1 in
    moved (λ (y : Place × CasePattern) r. CaseHead ts y.0 y.1 r) k.2 (record {
      worded = w.0.1;
      named = c.0.1;
      here = first.1;
      cases = first.0;
      pattern = (case_pattern_sound w.0.1 c.0.0 c.0.1 c.1).0;
      colon = (mark_sound Ghost punctuators.Colon c.0.1 k.0.0 k.0.1 k.1).0;
    })
