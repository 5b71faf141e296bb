use Rattle.std.proofs.Common.{rules, ◌≡◌, ◌∙◌, length, ap, arith}
use Rattle.vf_closure.specs.Terms.{Compare, term}
use Rattle.vf_core.specs.Shown.{comparison_of}
use Rattle.vf_formula.specs.Rows.{row}
use Rattle.vf_truths.specs.Truths.{bare_literal}
use Rattle.vf_truths.proofs.Bared.{both_read, compares_nothing, ok_literal}
use Rattle.vf_truths.proofs.truth.bare_literal.Goals as goal

pub returns-then-len-ne2 : goal.returns-then-len-ne2
returns-then-len-ne2 c =
    let w : term (Compare (comparison_of c.in-Compare.operator)) (row c.term.inside.parts) ≡ c.args.term.now = search rules in
    let n : length c.term.inside.parts ≡ 2 → ⊥ = λ e. omega (arith, c.if-len-ne2.true, c.len.ensures) in
    ok_literal c.has_truth.result _ _ c.has_truth.ensures (compares_nothing c.args.term.now (comparison_of c.in-Compare.operator) c.term.inside.parts c.args.wanted w n)

pub returns-else-len-ne2 : goal.returns-else-len-ne2
returns-else-len-ne2 c =
    let items = c.as_slice-parts.result.now in
    let n : length items ≡ 2 = omega (arith, c.if-len-ne2.false, c.len.ensures, ap length c.as_slice-parts.ensures) in
    let r : term (Compare (comparison_of c.in-Compare.operator)) (row items) ≡ c.args.term.now = search rules in
    let w = ap (term (Compare (comparison_of c.in-Compare.operator))) (both_read items c.index-parts-0.result c.index-parts-1.result n c.index-parts-0.is c.index-parts-1.is) ∙ r in
    ok_literal c.compared_literal.result _ _ c.compared_literal.ensures (ap (λ t. bare_literal t c.args.wanted) w)
