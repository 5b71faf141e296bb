use Rattle.std.proofs.Common.{◌≡◌, sym, ◌∙◌, ap₂, subst, Some}
use Rattle.vf_core.specs.Shown.{operator_of}
use Rattle.vf_normal.specs.Sums.{Linear, combined, form_of}
use Rattle.vf_normal.specs.NormalForms.{IsNormal}
use Rattle.vf_normal.proofs.Reached.{calculated_normal}
use Rattle.vf_formula.specs.Linears.{IsSum}
use Rattle.vf_formula.proofs.Calculating.{form_is_sum, comes_to, ok_normal}
use Rattle.vf_formula.proofs.calculation.calculated.Goals as goal

pub combined-requires-clause-left_sum : goal.combined-requires-clause-left_sum
combined-requires-clause-left_sum c =
    subst (λ (f : Linear). IsSum f.atoms) (sym c.in_ok-left.ensures) (form_is_sum c.args.a.now c.requires.left)

pub combined-requires-clause-right_sum : goal.combined-requires-clause-right_sum
combined-requires-clause-right_sum c =
    subst (λ (f : Linear). IsSum f.atoms) (sym c.in_ok-right.ensures) (form_is_sum c.args.b.now c.requires.right)

pub returns-then-fits-clause-normal : goal.returns-then-fits-clause-normal
returns-then-fits-clause-normal c =
    let e = rw c.in-Some.is at c.in_ok-sum.ensures in
    let f : combined (operator_of c.args.operator) (form_of c.args.a.now) (form_of c.args.b.now) ≡ Some c.in-Some.sum = ap₂ (combined (operator_of c.args.operator)) (sym c.in_ok-left.ensures) (sym c.in_ok-right.ensures) ∙ e in
    let g = comes_to (operator_of c.args.operator) c.args.a.now c.args.b.now c.in-Some.sum f (sym c.fits.ensures ∙ c.if-fits.true) in
    ok_normal c.term.result _ c.term.ensures (subst IsNormal g (calculated_normal (operator_of c.args.operator) c.args.a.now c.args.b.now c.requires.left c.requires.right))
