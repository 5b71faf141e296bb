use Rattle.std.proofs.Common.{◌≡◌, ◌-◌, ◌∙◌, refl, sym, subst, arith, rules}
use Rattle.std.specs.Prelude.{pos, FitsSigned}
use Rattle.std.proofs.lemmas.Int.{to_z-of_z}
use mir.Syntax.{w128}
use mir.Val.{to_z, of_z}
use Rattle.std.proofs.Math.ListN.{get_or}
use Rattle.vf_normal.specs.NormalForms.{IsNormal}
use Rattle.vf_formula.proofs.Parts.{normal_at, one_more_added, none_added}
use Rattle.vf_formula.proofs.normal.added_up.Goals as goal

pub loop-i-init : goal.loop-i-init
loop-i-init c = record {
  value = c.of_number-sum.ensures ∙ sym (none_added c.args.factors.now c.args.parts.now c.min-i.result (omega arith));
  normal = subst IsNormal (sym c.of_number-sum.ensures) (refl, tt);
}

pub one_added-requires-clause-part : goal.one_added-requires-clause-part
one_added-requires-clause-part c =
    let u = c.index-as_slice-i.result in
    let e : u ≡ get_or c.args.parts.now (c.loop-i.i - 1) u = subst (λ us. u ≡ get_or us (c.loop-i.i - 1) u) c.as_slice.ensures c.index-as_slice-i.is in
    normal_at c.args.parts.now (c.loop-i.i - 1) u (omega arith) e c.requires

pub loop-i-preserved : goal.loop-i-preserved
loop-i-preserved c =
    let i = c.loop-i.i - 1 in
    let u = c.index-as_slice-i.result in
    let e : u ≡ get_or c.args.parts.now i u = subst (λ us. u ≡ get_or us i u) c.as_slice.ensures c.index-as_slice-i.is in
    let s : FitsSigned w128 (get_or c.args.factors.now i (pos 0)) = search rules in
    record {
      value = one_more_added c.args.factors.now c.args.parts.now i c.loop-i.i (to_z w128 (of_z w128 (get_or c.args.factors.now i (pos 0)))) u c.loop-i.sum c.in_ok-sum.sum (omega arith) (omega arith) (omega arith) (to_z-of_z w128 (get_or c.args.factors.now i (pos 0)) s) e c.loop-i.invariant.value c.in_ok-sum.ensures.value;
      normal = c.in_ok-sum.ensures.normal;
    }
