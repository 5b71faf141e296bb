use Rattle.std.proofs.Common.{rules, subst}
use Rattle.std.specs.Prelude.{ℤ}
use Rattle.std.proofs.lemmas.Int.{to_z-of_z}
use Rattle.vf_ground.specs.Held.{HasBoth}
use Rattle.vf_ground.proofs.Gained.{number_one, number_small}
use Rattle.vf_refuting.proofs.gather.add_as_number.Goals as goal

pub add_number-requires-clause-number : goal.add_number-requires-clause-number
add_number-requires-clause-number c =
    let f : mir.Val.SFits mir.Syntax.w128 c.in-Some.number = search rules in
    simp to_z-of_z (rw c.nodes.ensures at c.in-Some.ensures)

pub add_number-requires-clause-small : goal.add_number-requires-clause-small
add_number-requires-clause-small c =
    let f : mir.Val.SFits mir.Syntax.w128 c.in-Some.number = search rules in
    simp to_z-of_z (number_small c.args.run.now.log.nodes c.args.a c.in-Some.number c.requires.small (rw c.nodes.ensures at c.in-Some.ensures))

pub returns-in_ok-add_number-in-Some-clause-has : goal.returns-in_ok-add_number-in-Some-clause-has
returns-in_ok-add_number-in-Some-clause-has c = λ k o p z.
    let f : mir.Val.SFits mir.Syntax.w128 c.in-Some.number = search rules in
    let one = number_one c.args.run.now.log.nodes c.args.a c.in-Some.number k (rw c.nodes.ensures at c.in-Some.ensures) p in
    subst (λ (d : ℤ). HasBoth c.add_number.new.run.bounds.edges c.args.a o d) one (simp to_z-of_z at (c.in_ok-add_number-in-Some.ensures.has o z))

pub returns-in-None-clause-has : goal.returns-in-None-clause-has
returns-in-None-clause-has c = λ k o p z. absurd ((rw c.nodes.ensures at c.in-None.ensures) k p)
