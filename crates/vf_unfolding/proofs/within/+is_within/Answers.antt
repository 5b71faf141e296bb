use Rattle.std.proofs.Common.{◌≡◌, ◌<◌, refl, sym, ap, ◌∙◌, subst, arith}
use Rattle.std.proofs.lemmas.Bool.{false≢true}
use Rattle.vf_closure.specs.Terms.{Term, term, IsWithin, itself, below}
use Rattle.vf_formula.specs.Heads.{shown_head}
use Rattle.vf_formula.specs.Rows.{row, size_of}
use Rattle.vf_question.proofs.Gathering.{part_smaller}
use Rattle.vf_unfolding.proofs.Standing.{at_row, not_within}
use Rattle.vf_unfolding.proofs.within.+is_within.Goals as goal

pub returns-then-same : goal.returns-then-same
returns-then-same t c = (λ k. subst (λ (u : Term). IsWithin c.args.term.now u) (sym (c.same.ensures.0 c.if-same.true)) itself, λ k. refl)

pub is_within-requires : goal.is_within-requires
is_within-requires t c =
    let e = part_smaller (shown_head c.whole.inside.head) c.as_slice-part-items.result.now c.loop-part.part-index c.part-item.result c.loop-part-test.true c.part-item.is in
    let w : term (shown_head c.whole.inside.head) (row c.as_slice-part-items.result.now) ≡ c.args.whole.now = ap (λ ps. term (shown_head c.whole.inside.head) (row ps)) c.as_slice-part-items.ensures ∙ c.whole.view_is in
    let d : size_of c.args.whole.now ≡ t = c.decreases in
    let r : size_of c.part-item.result < t = omega (arith, ap size_of w) in
    (r, tt)

pub returns-then-is_within : goal.returns-then-is_within
returns-then-is_within t c =
    let w : term (shown_head c.whole.inside.head) (row c.as_slice-part-items.result.now) ≡ c.args.whole.now = ap (λ ps. term (shown_head c.whole.inside.head) (row ps)) c.as_slice-part-items.ensures ∙ c.whole.view_is in
    (λ k. subst (IsWithin c.args.term.now) w (below (at_row c.as_slice-part-items.result.now c.loop-part.part-index c.part-item.result c.loop-part-test.true c.part-item.is) (c.is_within.ensures.0 c.if-is_within.true)), λ k. refl)

pub returns : goal.returns
returns t c =
    let w : c.args.whole.now ≡ term (shown_head c.whole.inside.head) (row c.as_slice-part-items.result.now) = sym c.whole.view_is ∙ ap (λ ps. term (shown_head c.whole.inside.head) (row ps)) (sym c.as_slice-part-items.ensures) in
    (λ k. absurd (false≢true k), λ k. absurd (not_within c.args.term.now c.args.whole.now (shown_head c.whole.inside.head) c.as_slice-part-items.result.now c.loop-part.part-index w (omega arith) (λ e. false≢true (sym c.if-same.false ∙ c.same.ensures.1 e)) c.loop-part.invariant k))
