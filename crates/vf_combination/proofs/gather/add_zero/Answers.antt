use Rattle.std.proofs.Common.{refl}
use Rattle.std.proofs.lemmas.Int.{to_z-of_z}
use Rattle.vf_ground.proofs.Gained.{number_added, two_are, number_small}
use Rattle.vf_combination.proofs.gather.add_zero.Goals as goal

pub both_marking-requires-clause-small : goal.both_marking-requires-clause-small
both_marking-requires-clause-small c = let f = c.ranges.number in simp to_z-of_z (number_small c.args.nodes.now c.args.a c.args.number c.requires.small c.requires.number)

pub returns-then-is_zero-clause-added : goal.returns-then-is_zero-clause-added
returns-then-is_zero-clause-added c = let f = c.ranges.number in
    number_added c.args.nodes.now c.args.bounds.now.edges c.both_marking.new.bounds.edges c.args.a c.args.zero c.args.number c.requires.number (c.if-is_zero.ensures.0 refl) (simp to_z-of_z at c.in_ok-both_marking.ensures.edges)

pub returns-then-is_zero-clause-has : goal.returns-then-is_zero-clause-has
returns-then-is_zero-clause-has c = let f = c.ranges.number in
    λ z. two_are c.args.bounds.now.edges c.both_marking.new.bounds.edges c.args.a c.args.zero c.args.number (simp to_z-of_z at c.in_ok-both_marking.ensures.edges)
