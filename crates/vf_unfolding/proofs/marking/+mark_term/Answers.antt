use Rattle.std.proofs.Common.{◌≡◌, ◌<◌, ap, ◌∙◌, arith}
use Rattle.vf_closure.specs.Terms.{term, itself}
use Rattle.vf_formula.specs.Heads.{shown_head}
use Rattle.vf_formula.specs.Rows.{row, size_of}
use Rattle.vf_question.proofs.Gathering.{part_smaller}
use Rattle.vf_unfolding.proofs.Standing.{at_row}
use Rattle.vf_unfolding.proofs.Marks.{part_within}
use Rattle.vf_unfolding.proofs.marking.+mark_term.Goals as goal

pub mark_term-requires : goal.mark_term-requires
mark_term-requires t c =
    let items = c.as_slice-part-items.result.now in
    let h = shown_head c.term.inside.head in
    let e = part_smaller h items c.loop-part.part-index c.part-item.result c.loop-part-test.true c.part-item.is in
    let w : term h (row items) ≡ c.args.term.now = ap (λ ps. term h (row ps)) c.as_slice-part-items.ensures ∙ c.term.view_is in
    let d : size_of c.args.term.now ≡ t = c.decreases in
    let r : size_of c.part-item.result < t = omega (arith, ap size_of w) in
    let a = at_row items c.loop-part.part-index c.part-item.result c.loop-part-test.true c.part-item.is in
    (r, (λ s v. c.requires.there s (part_within h items c.loop-part.part-index c.part-item.result s c.args.term.now a w v), c.loop-part.invariant.within))

pub mark_one-requires-clause-there : goal.mark_one-requires-clause-there
mark_one-requires-clause-there t c = c.requires.there c.args.term.now itself
