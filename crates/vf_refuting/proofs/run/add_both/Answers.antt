use Rattle.std.proofs.Common.{◌≡◌, arith}
use Rattle.std.specs.Prelude.{pos, ◌+ℤ◌, neg_ℤ}
use Rattle.std.proofs.lemmas.Int.{ints, to_z-of_z}
use Rattle.vf_ground.specs.Held.{edge}
use Rattle.vf_refuting.proofs.run.add_both.Goals as goal

pub returns-clause-has : goal.returns-clause-has
returns-clause-has c =
    let f = c.ranges.by in
    let l = c.requires.small.low in
    let u = c.requires.small.high in
    let g : mir.Val.SFits mir.Syntax.w128 (pos 0 +ℤ neg_ℤ c.args.by) = omega (arith, ints) in
    let h : mir.Val.SFits mir.Syntax.w128 (neg_ℤ c.args.by) = omega (arith, ints) in
    let z : pos 0 +ℤ neg_ℤ c.args.by ≡ neg_ℤ c.args.by = omega (arith, ints) in
    record {
      up = c.in_ok-add-2.ensures.goes.edges (edge c.args.x c.args.y c.args.by) (simp to_z-of_z at c.in_ok-add.ensures.added);
      down = simp (to_z-of_z, z) at c.in_ok-add-2.ensures.added;
    }
