use Rattle.std.proofs.Common.{◌≡◌, ◌∙◌, ◌∷◌, ◌++◌, take, drop, sym, ap, subst, arith}
use Rattle.std.specs.Ordering.{is_gt}
use Rattle.std.proofs.Math.ListN.{get_or}
use Rattle.vf_normal.specs.Normal.{with_factor}
use Rattle.vf_formula.specs.Rows.{row}
use Rattle.vf_formula.proofs.Parts.{passed, stopped, last_placed}
use Rattle.vf_formula.proofs.share.place.Goals as goal

pub returns-then-not-is_gt-clause-place : goal.returns-then-not-is_gt-clause-place
returns-then-not-is_gt-clause-place c =
    let u = c.index-as_slice-i.result in
    let e : u ≡ get_or c.args.factors.now c.loop-i.i u = subst (λ us. u ≡ get_or us c.loop-i.i u) c.as_slice.ensures c.index-as_slice-i.is in
    sym c.loop-i.invariant
    ∙ stopped c.args.item.now c.args.factors.now c.loop-i.i u (omega arith) e (ap is_gt (sym c.compare.ensures) ∙ sym c.is_gt.ensures ∙ c.if-not-is_gt.true)

pub loop-i-preserved : goal.loop-i-preserved
loop-i-preserved c =
    let u = c.index-as_slice-i.result in
    let e : u ≡ get_or c.args.factors.now c.loop-i.i u = subst (λ us. u ≡ get_or us c.loop-i.i u) c.as_slice.ensures c.index-as_slice-i.is in
    passed c.args.item.now c.args.factors.now c.loop-i.i u (omega arith) e (ap is_gt (sym c.compare.ensures) ∙ sym c.is_gt.ensures ∙ c.if-not-is_gt.false)
    ∙ c.loop-i.invariant

pub returns-clause-place : goal.returns-clause-place
returns-clause-place c =
    let e : c.loop-i.i ≡ c.len.result = omega arith in
    subst (λ n. with_factor c.args.item.now (row c.args.factors.now) ≡ row (take n c.args.factors.now ++ c.args.item.now ∷ drop n c.args.factors.now)) e
    (sym c.loop-i.invariant ∙ last_placed c.args.item.now c.args.factors.now c.loop-i.i (omega arith))
