use Rattle.std.proofs.Common.{◌≡◌, refl, inr, true, false}
use Rattle.std.proofs.lemmas.Int.{to_z-of_z}
use Rattle.std.proofs.lemmas.Option.{slice_get_within}
use Rattle.vf_refuting.proofs.Running.{term_within}
use Rattle.vf_refuting.proofs.gather.add_zero.Goals as goal

pub add_offset-requires-clause-offset : goal.add_offset-requires-clause-offset
add_offset-requires-clause-offset c =
    let f = c.ranges.number in
    let z = rw c.nodes.ensures at c.if-is_zero.ensures in
    simp to_z-of_z (inr (refl, c.requires.number, z.0 refl))

pub add_offset-requires-clause-left : goal.add_offset-requires-clause-left
add_offset-requires-clause-left c = term_within c.args.run.now c.args.a c.requires.run (let p = c.requires.number in slice_get_within c.args.run.now.log.nodes c.args.a p.0 p.1)

pub add_offset-requires-clause-right : goal.add_offset-requires-clause-right
add_offset-requires-clause-right c = let z = rw c.nodes.ensures at c.if-is_zero.ensures in
    term_within c.args.run.now c.args.zero c.requires.run (let p = z.0 refl in slice_get_within c.args.run.now.log.nodes c.args.zero p.0 p.1)

pub returns-then-is_zero-clause-has : goal.returns-then-is_zero-clause-has
returns-then-is_zero-clause-has c = let f = c.ranges.number in λ z. simp to_z-of_z at c.in_ok-add_offset.ensures.has

pub returns-clause-has : goal.returns-clause-has
returns-clause-has c =
    let z = rw c.nodes.ensures at c.if-is_zero.ensures in
    let e = c.if-is_zero.false in
    λ n. absurd (let g : false ≡ true = z.1 n in cc)
