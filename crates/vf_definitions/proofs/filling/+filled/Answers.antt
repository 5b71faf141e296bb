use Rattle.std.proofs.Common.{◌≡◌, ◌<◌, ◌+◌, drop, sym, ap, subst, ◌∙◌, arith}
use Rattle.vf_closure.specs.Terms.{term}
use Rattle.vf_formula.specs.Heads.{shown_head}
use Rattle.vf_formula.specs.Rows.{row, size_of}
use Rattle.vf_formula.proofs.Parts.{ahead}
use Rattle.vf_question.proofs.Gathering.{part_smaller}
use Rattle.vf_definitions.specs.Filled.{filled, all_filled}
use Rattle.vf_definitions.proofs.Rows.{part_filled, parts_filled, whole_filled}
use Rattle.vf_definitions.proofs.filling.+filled.Goals as goal

pub filled-requires : goal.filled-requires
filled-requires t c =
    let e = part_smaller (shown_head c.body.inside.head) c.as_slice-part-items.result.now c.loop-part.part-index c.part-item.result c.loop-part-test.true c.part-item.is in
    let w : term (shown_head c.body.inside.head) (row c.as_slice-part-items.result.now) ≡ c.args.body.now = ap (λ ps. term (shown_head c.body.inside.head) (row ps)) c.as_slice-part-items.ensures ∙ c.body.view_is in
    let d : size_of c.args.body.now ≡ t = c.decreases in
    let r : size_of c.part-item.result < t = omega (arith, ap size_of w) in
    (r, tt)

pub loop-part-preserved : goal.loop-part-preserved
loop-part-preserved t c =
    let items = c.as_slice-part-items.result.now in
    let i = c.loop-part.part-index in
    subst (λ all. ahead all (all_filled (row c.args.arguments.now) (row (drop (i + 1) items))) ≡ all_filled (row c.args.arguments.now) (row items)) (sym c.in_ok-push.ensures.pushed)
    (part_filled (row c.args.arguments.now) c.loop-part.all items i c.part-item.result c.in_ok-part.part c.loop-part-test.true c.part-item.is c.in_ok-part.ensures c.loop-part.invariant)

pub returns : goal.returns
returns t c =
    let items = c.as_slice-part-items.result.now in
    let w : term (shown_head c.body.inside.head) (row items) ≡ c.args.body.now = ap (λ ps. term (shown_head c.body.inside.head) (row ps)) c.as_slice-part-items.ensures ∙ c.body.view_is in
    c.new.ensures
    ∙ ap (λ h. term (shown_head h) (row c.loop-part.all)) c.in_ok-copy.ensures
    ∙ whole_filled (row c.args.arguments.now) (shown_head c.body.inside.head) items c.loop-part.all c.in_default.ensures (parts_filled (row c.args.arguments.now) c.loop-part.all items c.loop-part.part-index (omega (arith, c.loop-part-test.false)) c.loop-part.invariant)
    ∙ ap (filled (row c.args.arguments.now)) w
