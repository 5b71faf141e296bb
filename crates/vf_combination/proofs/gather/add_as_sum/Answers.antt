use Rattle.std.proofs.Common.{rules, subst}
use Rattle.std.specs.Prelude.{ℤ}
use Rattle.std.proofs.lemmas.Int.{to_z-of_z}
use Rattle.vf_ground.specs.Held.{HasBoth}
use Rattle.vf_ground.proofs.Gained.{sum_added, two_are, sum_one}
use Rattle.vf_combination.proofs.gather.add_as_sum.Goals as goal

pub returns-in_ok-both_marking-in-Some-clause-added : goal.returns-in_ok-both_marking-in-Some-clause-added
returns-in_ok-both_marking-in-Some-clause-added c =
    let f : mir.Val.SFits mir.Syntax.w128 c.in-Some.shift.number = search rules in
    sum_added c.args.nodes.now c.args.bounds.now.edges c.both_marking.new.bounds.edges c.args.term c.in-Some.shift.part c.in-Some.shift.number c.in-Some.ensures (simp to_z-of_z at c.in_ok-both_marking-in-Some.ensures.edges)

pub returns-in_ok-both_marking-in-Some-clause-has : goal.returns-in_ok-both_marking-in-Some-clause-has
returns-in_ok-both_marking-in-Some-clause-has c = λ q k p.
    let f : mir.Val.SFits mir.Syntax.w128 c.in-Some.shift.number = search rules in
    let one = sum_one c.args.nodes.now c.args.term c.in-Some.shift.part q c.in-Some.shift.number k c.in-Some.ensures p in
    subst (λ z. HasBoth c.both_marking.new.bounds.edges c.args.term z k) one.0
    (subst (λ (d : ℤ). HasBoth c.both_marking.new.bounds.edges c.args.term c.in-Some.shift.part d) one.1
    (two_are c.args.bounds.now.edges c.both_marking.new.bounds.edges c.args.term c.in-Some.shift.part c.in-Some.shift.number (simp to_z-of_z at c.in_ok-both_marking-in-Some.ensures.edges)))

pub returns-in-None-clause-has : goal.returns-in-None-clause-has
returns-in-None-clause-has c = λ q k p. absurd (c.in-None.ensures q k p)
