use Rattle.std.proofs.Common.{◌≡◌, refl, rules, arith}
use Rattle.std.specs.Prelude.{pos, ◌+ℤ◌, neg_ℤ}
use Rattle.std.proofs.lemmas.Int.{ints, to_z-of_z}
use Rattle.vf_combination.proofs.verdict.contradicts.Goals as goal

pub returns-then-is_near : goal.returns-then-is_near
returns-then-is_near c = let f : mir.Val.SFits mir.Syntax.w128 c.in-NotDifference.by = search rules in
    let s = rw c.in-NotDifference.is at c.requires.fine in
    let l = s.2.low in let u = s.2.high in
    let g : mir.Val.SFits mir.Syntax.w128 (pos 0 +ℤ neg_ℤ c.in-NotDifference.by) = omega (arith, ints) in
    let g' : mir.Val.SFits mir.Syntax.w128 (neg_ℤ c.in-NotDifference.by) = omega (arith, ints) in
    let z : pos 0 +ℤ neg_ℤ c.in-NotDifference.by ≡ neg_ℤ c.in-NotDifference.by = omega (arith, ints) in
    let p = simp to_z-of_z at c.if-is_near.ensures in
    let q = simp (to_z-of_z, z) at c.is_near-then-is_near.ensures in
    rw c.in-NotDifference.is (λ t. (p.0 refl, q.0 t), λ h. q.1 h.1)
