-- The shares that are read are spelled.
use Rattle.std.proofs.Common.{◌≡◌, ℕ, ◌≤◌, Bool, true, false, List, [], ◌∷◌, ◌++◌, length, Option, Some, None, refl, sym, subst, ◌∙◌, arith, inl, inr}
use Rattle.vf_lexer.specs.declared.punctuator.Punctuator.TheVariants as punctuators
use Rattle.vf_lexer.specs.declared.token.Token.{Token}
use Rattle.vf_syntax.specs.declared.side.Side.TheVariants.{Ghost}
use Rattle.vf_syntax.specs.declared.pattern.Share.{Share}
use Rattle.vf_syntax.specs.declared.pattern.Amount.{Amount}
use Rattle.vf_syntax.specs.declared.pattern.Factor.{Factor}
use Rattle.vf_syntax.specs.declared.pattern.FactorLink.{FactorLink}
use Rattle.vf_syntax.specs.Walks.{Walk, goes_on, ◌⨾◌, at, head_has, is_mark, is_name, mark}
use Rattle.vf_syntax.specs.Lists.{optional, each}
use Rattle.vf_syntax.specs.Assertions.{factor, factor_link, amount, share}
use Rattle.vf_cursor.specs.Parsing.{Parser, ok, ◌>>=◌, here_at, mark_at, name_at, number_at, many}
use Rattle.vf_cursor.proofs.Facts.{bind_ok, moved, chose}
use Rattle.vf_parse_term.specs.Laws.{IsSpelled}
use Rattle.vf_parse_term.proofs.Taken.{here_sound, mark_sound, name_sound, number_sound}
use Rattle.vf_parse_term.proofs.Lists.{items_sound}
use Rattle.vf_parse_pattern.specs.Laws.{flat}
use Rattle.vf_parse_pattern.specs.Shares.{number_factor_at, factor_at, is_factor_mark, factor_link_at, factor_step, product_at, amount_at, share_at, any_share_at}

number_factor_sound : (ts : List Token) (x : Factor) (rest : List Token) → number_factor_at ts ≡ ok x rest → factor x ts ≡ Some rest
unfolding number_factor_at
number_factor_sound ts x rest e =
    let p = bind_ok {r = here_at ts} e in
    let n = bind_ok {r = number_at Ghost p.0.1} p.2 in
    let here = here_sound ts p.0.0 p.0.1 p.1 in
    let same : number_at Ghost ts ≡ ok n.0.0 n.0.1 = subst (λ (r : List Token). number_at Ghost r ≡ ok n.0.0 n.0.1) here.0 n.1 in
    moved (λ y r. factor y ts ≡ Some r) n.2 (rw (here.1) (number_sound Ghost ts n.0.0 n.0.1 same))

factor_sound : (ts : List Token) (x : Factor) (rest : List Token) → factor_at ts ≡ ok x rest → factor x ts ≡ Some rest
unfolding factor_at
factor_sound ts x rest e =
    elim (chose (head_has (is_name Ghost) ts) _ _ _ e) [
      | inl h ↦ let n = bind_ok {r = name_at Ghost ts} h.1 in moved (λ y r. factor y ts ≡ Some r) n.2 (name_sound Ghost ts n.0.0 n.0.1 n.1).0
      | inr h ↦ number_factor_sound ts x rest h.1
    ]

factor_link_sound : IsSpelled factor_link_at factor_link flat 0
unfolding factor_link_at factor_link
factor_link_sound ts x rest e =
    elim (chose (head_has (is_mark Ghost punctuators.Slash) ts) _ _ _ e) [
      | inl h ↦
          let m = bind_ok {r = mark_at Ghost punctuators.Slash ts} h.1 in
          let f = bind_ok {r = factor_at m.0.1} m.2 in
          moved (λ y r. (factor_link y ts ≡ Some r) × (flat y ≤ 0)) f.2 (rw ((mark_sound Ghost punctuators.Slash ts m.0.0 m.0.1 m.1).0) (factor_sound m.0.1 f.0.0 f.0.1 f.1), omega arith)
      | inr h ↦
          let m = bind_ok {r = mark_at Ghost punctuators.Star ts} h.1 in
          let f = bind_ok {r = factor_at m.0.1} m.2 in
          moved (λ y r. (factor_link y ts ≡ Some r) × (flat y ≤ 0)) f.2 (rw ((mark_sound Ghost punctuators.Star ts m.0.0 m.0.1 m.1).0) (factor_sound m.0.1 f.0.0 f.0.1 f.1), omega arith)
    ]

product_sound : (ts : List Token) (x : Amount) (rest : List Token) → product_at ts ≡ ok x rest → amount x ts ≡ Some rest
unfolding product_at factor_step
product_sound ts x rest e =
    let f = bind_ok {r = factor_at ts} e in
    let ls = bind_ok {r = many is_factor_mark factor_step [] f.0.1} f.2 in
    let k = items_sound factor_link_at factor_link flat 0 factor_link_sound is_factor_mark (length f.0.1) [] f.0.1 ls.0.0 ls.0.1 ls.1 in
    let links : each factor_link ls.0.0 f.0.1 ≡ Some ls.0.1 = subst (λ (ys : List FactorLink). each factor_link ys f.0.1 ≡ Some ls.0.1) (sym k.1) k.2 in
    moved (λ y r. amount y ts ≡ Some r) ls.2 (rw (factor_sound ts f.0.0 f.0.1 f.1) links)

amount_sound : (ts : List Token) (x : Amount) (rest : List Token) → amount_at ts ≡ ok x rest → amount x ts ≡ Some rest
unfolding amount_at
amount_sound ts x rest e =
    elim (chose (head_has (is_mark Ghost punctuators.Question) ts) _ _ _ e) [
      | inl h ↦
          let q = bind_ok {r = mark_at Ghost punctuators.Question ts} h.1 in
          let n = bind_ok {r = name_at Ghost q.0.1} q.2 in
          let m = mark_sound Ghost punctuators.Question ts q.0.0 q.0.1 q.1 in
          moved (λ y r. amount y ts ≡ Some r) n.2 (rw (m.1, m.0) (name_sound Ghost q.0.1 n.0.0 n.0.1 n.1).0)
      | inr h ↦ product_sound ts x rest h.1
    ]

pub share_sound : IsSpelled share_at share flat 0
unfolding share_at share
share_sound ts x rest e =
    let p = bind_ok {r = mark_at Ghost punctuators.OpenBracket ts} e in
    let a = bind_ok {r = amount_at p.0.1} p.2 in
    let z = bind_ok {r = mark_at Ghost punctuators.CloseBracket a.0.1} a.2 in
    let opens = mark_sound Ghost punctuators.OpenBracket ts p.0.0 p.0.1 p.1 in
    let closes = mark_sound Ghost punctuators.CloseBracket a.0.1 z.0.0 z.0.1 z.1 in
    moved (λ (y : Share) r. (share y ts ≡ Some r) × (flat y ≤ 0)) z.2 (rw (opens.1, opens.0, amount_sound p.0.1 a.0.0 a.0.1 a.1) (closes.0), omega arith)

pub any_share_sound : IsSpelled any_share_at (optional share) flat 0
unfolding any_share_at
any_share_sound ts x rest e =
    elim (chose (head_has (is_mark Ghost punctuators.OpenBracket) ts) _ _ _ e) [
      | inl h ↦ let s = bind_ok {r = share_at ts} h.1 in moved (λ (y : Option Share) r. (optional share y ts ≡ Some r) × (flat y ≤ 0)) s.2 (share_sound ts s.0.0 s.0.1 s.1)
      | inr h ↦ moved (λ (y : Option Share) r. (optional share y ts ≡ Some r) × (flat y ≤ 0)) h.1 (refl, omega arith)
    ]
