use Rattle.std.proofs.Common.{rules, arith, refl}
use Rattle.vf_sorts.specs.Pairs.{weight}
use Rattle.vf_sorts.specs.Sorts.{size_of}
use Rattle.vf_sorts.proofs.Weights.{some_size}
use Rattle.vf_sorts.proofs.Making.{made_left, made_right, falls_right, lengths_apart, below_then, equal_then, less_then, told_left, told_right, told_then}
use Rattle.vf_sorts.proofs.Going.{first_is_made, second_is_made, lengths_unmade, parts_are_made}
use Rattle.vf_sorts.proofs.unify.unify_resolved.Goals as goal

pub returns-in-Some-clause-equal : goal.returns-in-Some-clause-equal
returns-in-Some-clause-equal c = made_left c.in_ok-is_made.is_made c.args.known.now.items c.assign.new.known.items c.in-Some.number c.args.left c.args.right c.args.pairs.now.items c.in-Some.ensures.unknown c.in_ok-is_made.ensures.equal

pub returns-in-Some-unknown_in-clause-equal : goal.returns-in-Some-unknown_in-clause-equal
returns-in-Some-unknown_in-clause-equal c = made_right c.in_ok-is_made-2.is_made c.args.known.now.items c.assign-in-Some-unknown_in.new.known.items c.in-Some-unknown_in.number c.args.left c.args.right c.args.pairs.now.items c.in-Some-unknown_in.ensures.unknown c.in_ok-is_made-2.ensures.equal

pub returns-in-Some-unknown_in-clause-falls : goal.returns-in-Some-unknown_in-clause-falls
returns-in-Some-unknown_in-clause-falls c = λ t. falls_right c.args.known.now.items c.assign-in-Some-unknown_in.new.known.items c.args.left c.args.right c.args.pairs.now.items (weight c.assign-in-Some-unknown_in.new.known.items c.args.pairs.now.items)
    (c.in_ok-is_made-2.ensures.falls t c.args.pairs.now.items (size_of c.args.right) (some_size c.args.right))

pub returns-then-len-clause-equal : goal.returns-then-len-clause-equal
returns-then-len-clause-equal c = lengths_apart c.args.left c.args.right c.left.inside.head c.right.inside.head c.left.inside.parts c.right.inside.parts c.left.view_is c.right.view_is c.in_default.ensures.unknown c.in_default-unknown_in.ensures.unknown (λ e. let a = c.len.ensures in let b = c.len-2.ensures in let t = c.if-len.true in omega (arith, a, b, t, e))

pub returns-clause-below : goal.returns-clause-below
returns-clause-below c = below_then c.args.known.now.items c.args.left c.args.right c.left.inside.head c.right.inside.head c.left.inside.parts c.right.inside.parts c.args.pairs.now.items c.pair_parts.new.pairs.items c.left.view_is c.right.view_is c.in_default.ensures.unknown c.in_default-unknown_in.ensures.unknown c.requires.left c.requires.right c.requires.below c.in_ok-pair_parts.ensures

pub returns-clause-equal : goal.returns-clause-equal
returns-clause-equal c = equal_then c.args.known.now.items c.args.left c.args.right c.left.inside.head c.right.inside.head c.left.inside.parts c.right.inside.parts c.args.pairs.now.items c.pair_parts.new.pairs.items c.left.view_is c.right.view_is c.in_default.ensures.unknown c.in_default-unknown_in.ensures.unknown (c.if-not-are_alike.ensures.told.0 refl) (let a = c.len.ensures in let b = c.len-2.ensures in let t = c.if-len.false in omega (arith, a, b, t)) c.in_ok-pair_parts.ensures

pub returns-clause-falls : goal.returns-clause-falls
returns-clause-falls c = λ t. less_then c.args.known.now.items c.args.left c.args.right c.left.inside.head c.right.inside.head c.left.inside.parts c.right.inside.parts c.args.pairs.now.items c.pair_parts.new.pairs.items c.left.view_is c.right.view_is c.in_default.ensures.unknown c.in_default-unknown_in.ensures.unknown c.requires.left c.requires.right c.in_ok-pair_parts.ensures

pub returns-in-Some-clause-told : goal.returns-in-Some-clause-told
returns-in-Some-clause-told c = told_left c.args.known.now.items c.assign.new.known.items c.in-Some.number c.args.left c.args.right c.args.pairs.now.items c.in-Some.ensures.unknown c.in_ok-is_made.ensures.told

pub returns-in-Some-unknown_in-clause-told : goal.returns-in-Some-unknown_in-clause-told
returns-in-Some-unknown_in-clause-told c = told_right c.args.known.now.items c.assign-in-Some-unknown_in.new.known.items c.in-Some-unknown_in.number c.args.left c.args.right c.args.pairs.now.items c.in-Some-unknown_in.ensures.unknown c.in_ok-is_made-2.ensures.told

pub returns-clause-told : goal.returns-clause-told
returns-clause-told c = told_then c.args.known.now.items c.args.left c.args.right c.left.inside.head c.right.inside.head c.left.inside.parts c.right.inside.parts c.args.pairs.now.items c.pair_parts.new.pairs.items c.left.view_is c.right.view_is c.in_default.ensures.unknown c.in_default-unknown_in.ensures.unknown c.in_ok-pair_parts.ensures

pub returns-in-Some-clause-made : goal.returns-in-Some-clause-made
returns-in-Some-clause-made c = first_is_made _ _ _ _ c.args.left c.args.right _ c.in-Some.ensures.is c.in_ok-is_made.ensures.made

pub returns-in-Some-unknown_in-clause-made : goal.returns-in-Some-unknown_in-clause-made
returns-in-Some-unknown_in-clause-made c = second_is_made _ _ _ _ c.args.left c.args.right _ c.in_default.ensures.is c.in-Some-unknown_in.ensures.is c.in_ok-is_made-2.ensures.made

pub returns-then-len-clause-made : goal.returns-then-len-clause-made
returns-then-len-clause-made c = lengths_unmade _ _ c.args.left c.args.right c.left.inside.head c.right.inside.head c.left.inside.parts c.right.inside.parts c.left.view_is c.right.view_is c.in_default.ensures.is c.in_default-unknown_in.ensures.is (search rules) (λ e. let a = c.len.ensures in let b = c.len-2.ensures in let t = c.if-len.true in omega (arith, a, b, t, e))

pub returns-clause-made : goal.returns-clause-made
returns-clause-made c = parts_are_made _ _ _ c.args.left c.args.right c.left.inside.head c.right.inside.head c.left.inside.parts c.right.inside.parts c.left.view_is c.right.view_is c.in_default.ensures.is c.in_default-unknown_in.ensures.is (search rules) (let a = c.len.ensures in let b = c.len-2.ensures in let t = c.if-len.false in omega (arith, a, b, t)) c.in_ok-pair_parts.ensures
