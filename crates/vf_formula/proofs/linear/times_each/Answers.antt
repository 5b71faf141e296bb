use Rattle.std.proofs.Common.{◌≡◌, refl, ◌∙◌, ap, subst, arith, rules}
use Rattle.std.specs.Prelude.{FitsSigned, ℤ, false}
use Rattle.std.proofs.lemmas.Int.{to_z-of_z}
use mir.Syntax.{w128}
use mir.Val.{to_z, of_z}
use Rattle.vf_normal.specs.Sums.{are_small, times_each}
use Rattle.vf_formula.proofs.Calculating.{product_past_by, one_multiplied_by, all_multiplied}
use Rattle.vf_formula.proofs.linear.times_each.Goals as goal

pub returns-in-None : goal.returns-in-None
returns-in-None c =
    let r : FitsSigned w128 c.args.number = search rules in
    let s : FitsSigned w128 c.weighted.inside.factor = search rules in
    let a : c.weighted.inside.factor ≡ c.weighted-item.result.factor = ap (λ w. w.factor) c.weighted.view_is in
    subst (λ (k : ℤ). are_small (times_each k c.args.atoms.now) ≡ false) (to_z-of_z w128 c.args.number r)
    (product_past_by c.loop-weighted.all.items c.args.atoms.now (to_z w128 (of_z w128 c.args.number)) c.loop-weighted.weighted-index c.weighted-item.result (to_z w128 (of_z w128 c.args.number))
    (to_z w128 (of_z w128 c.weighted.inside.factor)) (omega arith) c.weighted-item.is c.loop-weighted.invariant c.in-None.ensures refl (to_z-of_z w128 c.weighted.inside.factor s ∙ a))

pub loop-weighted-preserved : goal.loop-weighted-preserved
loop-weighted-preserved c =
    let s : FitsSigned w128 c.weighted.inside.factor = search rules in
    let t : FitsSigned w128 c.in-Some.factor = search rules in
    let a : c.weighted.inside.factor ≡ c.weighted-item.result.factor = ap (λ w. w.factor) c.weighted.view_is in
    let b : c.weighted.inside.atom ≡ c.weighted-item.result.atom = ap (λ w. w.atom) c.weighted.view_is in
    one_multiplied_by c.loop-weighted.all.items c.put.new.all.items c.args.atoms.now (to_z w128 (of_z w128 c.args.number)) c.loop-weighted.weighted-index c.weighted-item.result (to_z w128 (of_z w128 c.args.number))
    (to_z w128 (of_z w128 c.weighted.inside.factor)) (to_z w128 (of_z w128 c.in-Some.factor)) c.in-Some.factor c.weighted.inside.atom (omega arith) c.weighted-item.is c.loop-weighted.invariant c.in_ok-put-in-Some.ensures
    c.in-Some.ensures.1 (to_z-of_z w128 c.in-Some.factor t) refl (to_z-of_z w128 c.weighted.inside.factor s ∙ a) b

pub returns : goal.returns
returns c =
    let r : FitsSigned w128 c.args.number = search rules in
    subst (λ (k : ℤ). c.loop-weighted.all.items ≡ times_each k c.args.atoms.now) (to_z-of_z w128 c.args.number r)
    (all_multiplied c.loop-weighted.all.items c.args.atoms.now (to_z w128 (of_z w128 c.args.number)) c.loop-weighted.weighted-index (omega arith) c.loop-weighted.invariant)
