use Rattle.std.proofs.Common.{rules, subst}
use Rattle.std.specs.Prelude.{ℤ}
use Rattle.std.proofs.lemmas.Int.{to_z-of_z}
use Rattle.vf_ground.specs.Held.{HasBoth}
use Rattle.vf_ground.proofs.Gained.{number_one}
use Rattle.vf_combination.proofs.gather.add_between.Goals as goal

pub returns-in_ok-add_zero-in-Some-clause-has : goal.returns-in_ok-add_zero-in-Some-clause-has
returns-in_ok-add_zero-in-Some-clause-has c = λ k p z.
    let f : mir.Val.SFits mir.Syntax.w128 c.in-Some.number = search rules in
    subst (λ (d : ℤ). HasBoth c.add_zero.new.bounds.edges c.args.a c.args.zero d) (number_one c.args.nodes.now c.args.a c.in-Some.number k c.in-Some.ensures p) (simp to_z-of_z at (c.in_ok-add_zero-in-Some.ensures.has z))

pub returns-in-None-clause-has : goal.returns-in-None-clause-has
returns-in-None-clause-has c = λ k p z. absurd (c.in-None.ensures k p)
