use Rattle.std.proofs.Common.{rules, subst}
use Rattle.std.specs.Prelude.{ℤ, slice_index}
use Rattle.std.proofs.lemmas.Int.{to_z-of_z}
use Rattle.std.proofs.lemmas.Option.{slice_get_within}
use Rattle.vf_ground.specs.Held.{HasBoth}
use Rattle.vf_ground.proofs.Gained.{sum_one, sum_part, number_small}
use Rattle.vf_refuting.proofs.Running.{term_within}
use Rattle.vf_refuting.proofs.gather.add_as_sum.Goals as goal

pub add_offset-requires-clause-left : goal.add_offset-requires-clause-left
add_offset-requires-clause-left c =
    let p = rw c.nodes.ensures at c.in-Some.ensures in
    term_within c.args.run.now c.args.a c.requires.run (slice_get_within c.args.run.now.log.nodes c.args.a p.node p.found)

pub add_offset-requires-clause-right : goal.add_offset-requires-clause-right
add_offset-requires-clause-right c =
    term_within c.args.run.now c.in-Some.shift.part c.requires.run (sum_part c.args.run.now.log.nodes _ c.args.a c.in-Some.shift.part c.in-Some.shift.number c.requires.parts (rw c.nodes.ensures at c.in-Some.ensures))

pub add_offset-requires-clause-small : goal.add_offset-requires-clause-small
add_offset-requires-clause-small c =
    let f : mir.Val.SFits mir.Syntax.w128 c.in-Some.shift.number = search rules in
    let p = rw c.nodes.ensures at c.in-Some.ensures in
    simp to_z-of_z (number_small c.args.run.now.log.nodes (slice_index p.node.parts.items 1) c.in-Some.shift.number c.requires.small p.number)

pub returns-in_ok-add_offset-in-Some-clause-has : goal.returns-in_ok-add_offset-in-Some-clause-has
returns-in_ok-add_offset-in-Some-clause-has c = λ q k p.
    let f : mir.Val.SFits mir.Syntax.w128 c.in-Some.shift.number = search rules in
    let one = sum_one c.args.run.now.log.nodes c.args.a c.in-Some.shift.part q c.in-Some.shift.number k (rw c.nodes.ensures at c.in-Some.ensures) p in
    subst (λ z. HasBoth c.add_offset.new.run.bounds.edges c.args.a z k) one.0
    (subst (λ (d : ℤ). HasBoth c.add_offset.new.run.bounds.edges c.args.a c.in-Some.shift.part d) one.1 (simp to_z-of_z at c.in_ok-add_offset-in-Some.ensures.has))

pub returns-in-None-clause-has : goal.returns-in-None-clause-has
returns-in-None-clause-has c = λ q k p. absurd ((rw c.nodes.ensures at c.in-None.ensures) q k p)
