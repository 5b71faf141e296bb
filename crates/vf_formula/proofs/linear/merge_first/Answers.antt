use Rattle.std.proofs.Common.{◌≡◌, ap, arith}
use Rattle.std.proofs.lemmas.Grind.{common_steps}
use Rattle.std.proofs.lemmas.Int.{ints}
use Rattle.std.specs.Prelude.{◌+ℤ◌}
use mir.Syntax.{w128}
use mir.Val.{to_z, of_z}
use Rattle.std.specs.declared.cmp.Ordering.TheVariants as order
use Rattle.vf_normal.specs.Order.{compare}
use Rattle.vf_formula.proofs.Merging.{merged_less, merged_both, merged_greater, small_at, small_bounds, sum_fits}
use Rattle.vf_formula.proofs.linear.merge_first.Goals as goal

pub overflow_add-a-inside : goal.overflow_add-a-inside
overflow_add-a-inside c =
    let a : c.a.inside.factor ≡ c.index-left-at.result.factor = ap (λ w. w.factor) c.a.view_is in
    let b : c.b.inside.factor ≡ c.index-right-at.result.factor = ap (λ w. w.factor) c.b.view_is in
    let s = small_at c.args.left.now c.args.at.left c.index-left-at.result c.requires.left_small c.requires.left_place c.index-left-at.is in
    let t = small_at c.args.right.now c.args.at.right c.index-right-at.result c.requires.right_small c.requires.right_place c.index-right-at.is in
    sum_fits c.a.inside.factor c.b.inside.factor (cc (s, a)) (cc (t, b))

pub returns-in_ok-push-in-Less-clause-merged : goal.returns-in_ok-push-in-Less-clause-merged
returns-in_ok-push-in-Less-clause-merged c =
    let a : c.a.inside.atom ≡ c.index-left-at.result.atom = ap (λ w. w.atom) c.a.view_is in
    let b : c.b.inside.atom ≡ c.index-right-at.result.atom = ap (λ w. w.atom) c.b.view_is in
    let o : compare c.index-left-at.result.atom c.index-right-at.result.atom ≡ order.Less = cc in
    let e =
    merged_less c.args.all.now.items c.args.left.now c.args.right.now c.args.at.left c.args.at.right c.index-left-at.result c.index-right-at.result c.requires.left_atoms c.requires.right_atoms c.requires.left_place c.requires.right_place c.index-left-at.is
    c.index-right-at.is o
    in
    grind (arith, common_steps, e)

pub returns-in_ok-put-in-Equal-clause-merged : goal.returns-in_ok-put-in-Equal-clause-merged
returns-in_ok-put-in-Equal-clause-merged c =
    let a : c.a.inside.atom ≡ c.index-left-at.result.atom = ap (λ w. w.atom) c.a.view_is in
    let b : c.b.inside.atom ≡ c.index-right-at.result.atom = ap (λ w. w.atom) c.b.view_is in
    let o : compare c.index-left-at.result.atom c.index-right-at.result.atom ≡ order.Equal = cc in
    let s = small_bounds c.index-left-at.result.factor (small_at c.args.left.now c.args.at.left c.index-left-at.result c.requires.left_small c.requires.left_place c.index-left-at.is) in
    let t = small_bounds c.index-right-at.result.factor (small_at c.args.right.now c.args.at.right c.index-right-at.result c.requires.right_small c.requires.right_place c.index-right-at.is) in
    let s0 = s.0 in
    let s1 = s.1 in
    let t0 = t.0 in
    let t1 = t.1 in
    let f : c.a.inside.factor ≡ c.index-left-at.result.factor = ap (λ w. w.factor) c.a.view_is in
    let g : c.b.inside.factor ≡ c.index-right-at.result.factor = ap (λ w. w.factor) c.b.view_is in
    merged_both c.args.all.now.items c.put.new.all.items c.args.left.now c.args.right.now c.args.at.left c.args.at.right c.index-left-at.result c.index-right-at.result (to_z w128 (of_z w128 (to_z w128 (of_z w128 c.a.inside.factor) +ℤ to_z w128 (of_z w128 c.b.inside.factor)))) c.a.inside.atom c.requires.left_atoms c.requires.right_atoms c.requires.left_place
    c.requires.right_place c.index-left-at.is c.index-right-at.is o c.in_ok-put-in-Equal.ensures a (omega (arith, ints))

pub returns-in_ok-push-in-Greater-clause-merged : goal.returns-in_ok-push-in-Greater-clause-merged
returns-in_ok-push-in-Greater-clause-merged c =
    let a : c.a.inside.atom ≡ c.index-left-at.result.atom = ap (λ w. w.atom) c.a.view_is in
    let b : c.b.inside.atom ≡ c.index-right-at.result.atom = ap (λ w. w.atom) c.b.view_is in
    let o : compare c.index-left-at.result.atom c.index-right-at.result.atom ≡ order.Greater = cc in
    let e =
    merged_greater c.args.all.now.items c.args.left.now c.args.right.now c.args.at.left c.args.at.right c.index-left-at.result c.index-right-at.result c.requires.left_atoms c.requires.right_atoms c.requires.left_place c.requires.right_place c.index-left-at.is
    c.index-right-at.is o
    in
    grind (arith, common_steps, e)
