-- What is read between the braces of a fixpoint is spelled, and nests no deeper than is allowed.
use Rattle.std.proofs.Common.{◌≡◌, ℕ, ◌+◌, ◌≤◌, Bool, List, [], ◌∷◌, ◌++◌, length, Some, refl, sym, subst, arith, inl, inr}
use Rattle.vf_base.specs.declared.place.Place.{Place}
use Rattle.vf_lexer.specs.declared.punctuator.Punctuator.TheVariants as punctuators
use Rattle.vf_lexer.specs.declared.token.Token.{Token}
use Rattle.vf_syntax.specs.declared.keyword.Keyword.TheVariants as keywords
use Rattle.vf_syntax.specs.declared.side.Side.TheVariants.{Ghost}
use Rattle.vf_syntax.specs.declared.pattern.CasePattern.{CasePattern}
use Rattle.vf_syntax.specs.declared.written.Name.{Name}
use Rattle.vf_syntax.specs.declared.item.FixpointCase.{FixpointCase}
use Rattle.vf_syntax.specs.declared.item.FixpointBody.{FixpointBody}
use Rattle.vf_syntax.specs.declared.item.FixpointBody.TheVariants as bodies
use Rattle.vf_syntax.specs.Walks.{head_has, is_word, mark, word}
use Rattle.vf_syntax.specs.Written.{name}
use Rattle.vf_syntax.specs.Lists.{each, greatest}
use Rattle.vf_syntax.specs.Units.{fixpoint_case, fixpoint_body, fixpoint_case_nesting, fixpoint_body_nesting}
use Rattle.vf_cursor.specs.Parsing.{ok, mark_at, word_at, name_at}
use Rattle.vf_cursor.proofs.Facts.{bind_ok, ok_pair, moved, chose}
use Rattle.vf_parse_term.specs.Terms.{term_at}
use Rattle.vf_parse_term.specs.Laws.{IsSpelled}
use Rattle.vf_parse_term.proofs.Taken.{mark_sound, word_sound, name_sound}
use Rattle.vf_parse_term.proofs.Lists.{items_sound}
use Rattle.vf_parse_term.proofs.TermsRead.{term_sound}
use Rattle.vf_parse_assertion.specs.Parsers.{case_head_at, return_head_at}
use Rattle.vf_parse_command.proofs.CaseHeads.{CaseHead, case_head_sound}
use Rattle.vf_parse_ghost.specs.Fixpoints.{case_at, case_step, cases_at, value_at, switch_head_at, switch_at, fixpoint_body_at}

-- what stands in a case up to its `return`
pub record ReturnHead (ts : List Token) (h : Place × CasePattern) (rest : List Token) : Type 0 where
  pub mid : List Token
  pub head : CaseHead ts h.0 h.1 mid
  pub returns : word Ghost keywords.Return mid ≡ Some rest

return_head_sound : (ts : List Token) (h : Place × CasePattern) (rest : List Token) → return_head_at ts ≡ ok h rest → ReturnHead ts h rest
unfolding return_head_at
return_head_sound ts h rest eq =
    let a = bind_ok {r = case_head_at ts} eq in
    let w = bind_ok {r = word_at Ghost keywords.Return a.0.1} a.2 in
    moved (λ (y : Place × CasePattern) r. ReturnHead ts y r) w.2 (record { mid = a.0.1; head = case_head_sound ts a.0.0 a.0.1 a.1; returns = (word_sound Ghost keywords.Return a.0.1 w.0.0 w.0.1 w.1).0 })

-- a case is spelled, and nests at most so deep
abbrev IsCase : ℕ → List Token → FixpointCase → List Token → Type 0
IsCase d ts x rest = (fixpoint_case x ts ≡ Some rest) × (fixpoint_case_nesting x ≤ d)

case_sound : (d : ℕ) → IsSpelled (case_at d) fixpoint_case fixpoint_case_nesting d
unfolding case_at fixpoint_case
case_sound d ts x rest eq =
    let h = bind_ok {r = return_head_at ts} eq in
    let e = bind_ok {r = term_at d h.0.1} h.2 in
    let z = bind_ok {r = mark_at Ghost punctuators.Semicolon e.0.1} e.2 in
    let r = return_head_sound ts h.0.0 h.0.1 h.1 in
    let head = r.head in
    let k = term_sound d h.0.1 e.0.0 e.0.1 e.1 in
    moved (λ (y : FixpointCase) r. IsCase d ts y r) z.2 (rw (head.here, head.cases, head.pattern, head.colon, r.returns, k.0) (mark_sound Ghost punctuators.Semicolon e.0.1 z.0.0 z.0.1 z.1).0, k.1)

-- cases are spelled, and nest at most so deep
abbrev AreCases : ℕ → List Token → List FixpointCase → List Token → Type 0
AreCases d ts xs rest = (each fixpoint_case xs ts ≡ Some rest) × (greatest fixpoint_case_nesting xs ≤ d)

cases_sound : (d : ℕ) (ts : List Token) (xs : List FixpointCase) (rest : List Token) → cases_at d ts ≡ ok xs rest → AreCases d ts xs rest
unfolding case_step
cases_sound d ts xs rest eq =
    let k = items_sound (case_at d) fixpoint_case fixpoint_case_nesting d (case_sound d) (is_word Ghost keywords.Case) (length ts) [] ts xs rest eq in
    subst (λ (y : List FixpointCase). AreCases d ts y rest) (sym k.1) (k.2, k.3)

-- what stands between the braces is spelled, and nests at most so deep
abbrev IsBody : ℕ → List Token → FixpointBody → List Token → Type 0
IsBody d ts x rest = (fixpoint_body x ts ≡ Some rest) × (fixpoint_body_nesting x ≤ d)

value_sound : (d : ℕ) (ts : List Token) (x : FixpointBody) (rest : List Token) → value_at d ts ≡ ok x rest → IsBody d ts x rest
unfolding value_at fixpoint_body
value_sound d ts x rest eq =
    let w = bind_ok {r = word_at Ghost keywords.Return ts} eq in
    let e = bind_ok {r = term_at d w.0.1} w.2 in
    let z = bind_ok {r = mark_at Ghost punctuators.Semicolon e.0.1} e.2 in
    let k = term_sound d w.0.1 e.0.0 e.0.1 e.1 in
    moved (λ (y : FixpointBody) r. IsBody d ts y r) z.2 (rw ((word_sound Ghost keywords.Return ts w.0.0 w.0.1 w.1).0, k.0) (mark_sound Ghost punctuators.Semicolon e.0.1 z.0.0 z.0.1 z.1).0, k.1)

-- "switch" "(" NAME ")" "{"
pub record SwitchHead (ts : List Token) (n : Name) (rest : List Token) : Type 0 where
  pub worded : List Token
  pub opened : List Token
  pub named : List Token
  pub closed : List Token
  pub switches : word Ghost keywords.Switch ts ≡ Some worded
  pub opens : mark Ghost punctuators.OpenParenthesis worded ≡ Some opened
  pub looks : name Ghost n opened ≡ Some named
  pub closes : mark Ghost punctuators.CloseParenthesis named ≡ Some closed
  pub brace : mark Ghost punctuators.OpenBrace closed ≡ Some rest

switch_head_sound : (ts : List Token) (n : Name) (rest : List Token) → switch_head_at ts ≡ ok n rest → SwitchHead ts n rest
unfolding switch_head_at
switch_head_sound ts n rest eq =
    let w = bind_ok {r = word_at Ghost keywords.Switch ts} eq in
    let o = bind_ok {r = mark_at Ghost punctuators.OpenParenthesis w.0.1} w.2 in
    let x = bind_ok {r = name_at Ghost o.0.1} o.2 in
    let z = bind_ok {r = mark_at Ghost punctuators.CloseParenthesis x.0.1} x.2 in
    let b = bind_ok {r = mark_at Ghost punctuators.OpenBrace z.0.1} z.2 in
    moved (λ (y : Name) r. SwitchHead ts y r) b.2 (record {
      worded = w.0.1;
      opened = o.0.1;
      named = x.0.1;
      closed = z.0.1;
      switches = (word_sound Ghost keywords.Switch ts w.0.0 w.0.1 w.1).0;
      opens = (mark_sound Ghost punctuators.OpenParenthesis w.0.1 o.0.0 o.0.1 o.1).0;
      looks = (name_sound Ghost o.0.1 x.0.0 x.0.1 x.1).0;
      closes = (mark_sound Ghost punctuators.CloseParenthesis x.0.1 z.0.0 z.0.1 z.1).0;
      brace = (mark_sound Ghost punctuators.OpenBrace z.0.1 b.0.0 b.0.1 b.1).0;
    })

switch_walk : (n : Name) (xs : List FixpointCase) (ts mid behind rest : List Token) → SwitchHead ts n mid → each fixpoint_case xs mid ≡ Some behind → mark Ghost punctuators.CloseBrace behind ≡ Some rest → fixpoint_body (bodies.Switch n xs) ts ≡ Some rest
unfolding fixpoint_body
switch_walk n xs ts mid behind rest h cases closes = rw (h.switches, h.opens, h.looks, h.closes, h.brace, cases) closes

switch_sound : (d : ℕ) (ts : List Token) (x : FixpointBody) (rest : List Token) → switch_at d ts ≡ ok x rest → IsBody d ts x rest
unfolding switch_at
switch_sound d ts x rest eq =
    let n = bind_ok {r = switch_head_at ts} eq in
    let xs = bind_ok {r = cases_at d n.0.1} n.2 in
    let z = bind_ok {r = mark_at Ghost punctuators.CloseBrace xs.0.1} xs.2 in
    let k = cases_sound d n.0.1 xs.0.0 xs.0.1 xs.1 in
    let closes = (mark_sound Ghost punctuators.CloseBrace xs.0.1 z.0.0 z.0.1 z.1).0 in
    moved (λ (y : FixpointBody) r. IsBody d ts y r) z.2 (switch_walk n.0.0 xs.0.0 ts n.0.1 xs.0.1 z.0.1 (switch_head_sound ts n.0.0 n.0.1 n.1) k.0 closes, k.1)

pub fixpoint_body_sound : (d : ℕ) → IsSpelled (fixpoint_body_at d) fixpoint_body fixpoint_body_nesting d
unfolding fixpoint_body_at
fixpoint_body_sound d ts x rest eq =
    elim (chose (head_has (is_word Ghost keywords.Switch) ts) _ _ _ eq) [
      | inl h ↦ switch_sound d ts x rest h.1
      | inr h ↦ value_sound d ts x rest h.1
    ]
