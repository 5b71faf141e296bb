use Rattle.std.proofs.Common.{◌<◌, length, arith, below_more}
use Rattle.std.specs.Prelude.{pos}
use Rattle.std.proofs.lemmas.Int.{to_z-of_z}
use Rattle.std.proofs.lemmas.Option.{slice_get_within}
use Rattle.vf_table.specs.Tables.{IsNumber}
use Rattle.vf_ground.specs.Held.{HasBoth}
use Rattle.vf_ground.proofs.Gained.{both_kept}
use Rattle.vf_refuting.proofs.Deriving.{number_later}
use Rattle.vf_refuting.proofs.Running.{goes_more}
use Rattle.vf_refuting.proofs.gather.add_number.Goals as goal

pub add_zero-requires-clause-number : goal.add_zero-requires-clause-number
add_zero-requires-clause-number c = let f = c.ranges.number in simp to_z-of_z (number_later c.args.a c.args.number c.loop-zero.invariant.goes.log c.requires.number)

pub loop-zero-preserved : goal.loop-zero-preserved
loop-zero-preserved c =
    let f = c.ranges.number in
    let g = c.in_ok-add_zero.ensures.goes in
    let inv = c.loop-zero.invariant in
    record {
      goes = goes_more inv.goes g;
      has = below_more (λ o. IsNumber c.args.run.now.log.nodes o (pos 0) → HasBoth c.add_zero.new.run.bounds.edges c.args.a o _) c.loop-zero.zero
          (λ o l z. both_kept c.loop-zero.run.bounds.edges c.add_zero.new.run.bounds.edges g.edges c.args.a o _ (inv.has o l z))
          (λ z. c.in_ok-add_zero.ensures.has (number_later c.loop-zero.zero (pos 0) inv.goes.log z));
    }

pub returns-clause-has : goal.returns-clause-has
returns-clause-has c =
    let f = c.ranges.number in
    let e = c.requires.run.terms.long in
    λ o z. simp to_z-of_z at (c.loop-zero.invariant.has o (let l : o < length c.args.run.now.log.nodes = slice_get_within c.args.run.now.log.nodes o z.0 z.1 in omega (arith, e, l)) z)
