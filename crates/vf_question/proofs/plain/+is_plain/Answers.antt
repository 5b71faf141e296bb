use Rattle.std.proofs.Common.{◌≡◌, ◌<◌, sym, ap, ◌∙◌, arith}
use Rattle.std.proofs.lemmas.Bool.{false≢true}
use Rattle.vf_closure.specs.Terms.{term}
use Rattle.vf_formula.specs.Heads.{shown_head}
use Rattle.vf_formula.specs.Rows.{row, size_of}
use Rattle.vf_question.proofs.Gathering.{part_smaller}
use Rattle.vf_question.proofs.Plainness.{listed_plain}
use Rattle.vf_question.proofs.plain.+is_plain.Goals as goal

pub is_plain-requires : goal.is_plain-requires
is_plain-requires t c =
    let e = part_smaller (shown_head c.term.inside.head) c.as_slice-part-items.result.now c.loop-part.part-index c.part-item.result c.loop-part-test.true c.part-item.is in
    let w : term (shown_head c.term.inside.head) (row c.as_slice-part-items.result.now) ≡ c.args.term.now = ap (λ ps. term (shown_head c.term.inside.head) (row ps)) c.as_slice-part-items.ensures ∙ c.term.view_is in
    let d : size_of c.args.term.now ≡ t = c.decreases in
    let r : size_of c.part-item.result < t = omega (arith, ap size_of w) in
    (r, tt)

pub returns-then-not-is_plain : goal.returns-then-not-is_plain
returns-then-not-is_plain t c =
    let w : c.args.term.now ≡ term (shown_head c.term.inside.head) (row c.as_slice-part-items.result.now) = sym c.term.view_is ∙ ap (λ ps. term (shown_head c.term.inside.head) (row ps)) (sym c.as_slice-part-items.ensures) in
    (λ k. absurd (false≢true k), λ k. absurd (false≢true (sym c.if-not-is_plain.true ∙ c.is_plain.ensures.1 (listed_plain (shown_head c.term.inside.head) c.as_slice-part-items.result.now c.loop-part.part-index c.part-item.result c.args.term.now w c.loop-part-test.true c.part-item.is k))))
