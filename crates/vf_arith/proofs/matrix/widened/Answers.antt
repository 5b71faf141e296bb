use Rattle.std.proofs.Common.{rules, ◌+◌, ◌*◌, ◌/◌, ◌%◌, arith, subst}
use Rattle.std.proofs.lemmas.Nat.{div-mul-add, mod-mul-add, mul-add-lt}
use Rattle.vf_arith.specs.Matrices.{distance}
use Rattle.vf_arith.specs.Histories.{IsDistanceIn}
use Rattle.vf_arith.proofs.Entries.{entries_push}
use Rattle.vf_arith.proofs.matrix.widened.Goals as goal

pub returns-clause-entries : goal.returns-clause-entries
returns-clause-entries c = λ x y inx iny.
    subst (λ i. IsDistanceIn c.args.size (distance c.args.size c.args.matrix.now) i y (distance c.args.width c.loop-k.wide.items x y)) (div-mul-add x c.args.width y iny)
    (subst (λ j. IsDistanceIn c.args.size (distance c.args.size c.args.matrix.now) ((x * c.args.width + y) / c.args.width) j (distance c.args.width c.loop-k.wide.items x y)) (mod-mul-add x c.args.width y iny)
    (c.loop-k.invariant.each (x * c.args.width + y) (let l = mul-add-lt x c.args.width y c.args.width inx iny in omega arith)))

pub loop-k-preserved : goal.loop-k-preserved
loop-k-preserved c = record {
  long = search rules;
  each = entries_push (λ j o. IsDistanceIn c.args.size (distance c.args.size c.args.matrix.now) (j / c.args.width) (j % c.args.width) o) c.loop-k.k c.loop-k.wide.items c.push.new.self.items c.distance_in.result c.loop-k.invariant.long c.in_ok-push.ensures.items c.loop-k.invariant.each
      (search rules);
}
