use Rattle.std.proofs.Common.{◌≡◌, ap, sym, subst, length, arith, IfOk}
use Rattle.vf_normal.specs.Sums.{Linear}
use Rattle.vf_formula.specs.Heads.{shown_head}
use Rattle.vf_formula.proofs.Merging.{plus_apart}
use Rattle.vf_formula.proofs.linear.plus_form.Goals as goal

pub returns-then-parts-ne2 : goal.returns-then-parts-ne2
returns-then-parts-ne2 c =
    let same : length c.as_slice-parts.result.now ≡ length c.whole.inside.parts = ap length c.as_slice-parts.ensures in
    let n : length c.whole.inside.parts ≡ 2 → ⊥ = λ h. omega (arith, same) in
    let e = plus_apart c.args.whole.now (shown_head c.whole.inside.head) c.whole.inside.parts c.requires.0 c.requires.1 c.whole.view_is n in
    subst (λ (f : Linear). IfOk c.atom_form.result (λ g. g ≡ f)) (sym e) c.atom_form.ensures
