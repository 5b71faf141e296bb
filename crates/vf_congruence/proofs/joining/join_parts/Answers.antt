use Rattle.std.proofs.Common.{slice_index, arith, refl, below_more}
use Rattle.vf_congruence.specs.Meeting.{AreTogether}
use Rattle.vf_congruence.proofs.Meeting.{paired_none, paired_more, changed_yes, changed_no, bounded_none, bounded_more}
use Rattle.vf_congruence.proofs.joining.join_parts.Goals as goal
use Rattle.vf_congruence.proofs.joining.join_parts.Goals.{then-join_two, else-join_two}

pub loop-i-init : goal.loop-i-init
loop-i-init c = record { joined = λ k l. absurd (omega arith); kept = λ x y h. h; bounded = bounded_none c.args.classes.now; only = paired_none _ _ _; same = λ f. refl; falls = λ t. absurd (cc) }

pub loop-i-preserved : goal.loop-i-preserved
loop-i-preserved c = record {
  joined = below_more (λ k. AreTogether c.join_two.new.classes (slice_index c.args.xs.now k) (slice_index c.args.ys.now k)) c.loop-i.i (λ k l. c.join_two.ensures.kept _ _ (c.loop-i.invariant.joined k l))
      (record { left = let h = c.requires.left c.loop-i.i 0 c.loop-i-test.true in omega arith; right = let h = c.requires.right c.loop-i.i 0 (omega arith) in omega arith; one = c.join_two.ensures.joined });
  kept = λ x y h. c.join_two.ensures.kept x y (c.loop-i.invariant.kept x y h);
  bounded = bounded_more c.args.classes.now c.loop-i.classes c.join_two.new.classes c.loop-i.auto.classes c.loop-i.invariant.bounded c.join_two.ensures.bounded;
  only = paired_more c.args.classes.now c.loop-i.classes c.join_two.new.classes c.args.xs.now c.args.ys.now _ _ c.loop-i.invariant.only c.join_two.ensures.only (record { place = c.loop-i.i; within = c.loop-i-test.true; left = refl; right = refl });
  same = elim c.if-join_two.branch [
    | then-join_two w ↦ (changed_yes c.args.classes.now c.loop-i.classes c.join_two.new.classes c.loop-i.changed c.if-join_two.changed w.changed-is c.loop-i.invariant.same c.loop-i.invariant.falls (c.join_two.ensures.falls w.if-join_two.true)).0
    | else-join_two w ↦ (changed_no c.args.classes.now c.loop-i.classes c.join_two.new.classes c.loop-i.changed c.if-join_two.changed w.changed-is c.loop-i.invariant.same c.loop-i.invariant.falls (c.join_two.ensures.same w.if-join_two.false)).0
  ];
  falls = elim c.if-join_two.branch [
    | then-join_two w ↦ (changed_yes c.args.classes.now c.loop-i.classes c.join_two.new.classes c.loop-i.changed c.if-join_two.changed w.changed-is c.loop-i.invariant.same c.loop-i.invariant.falls (c.join_two.ensures.falls w.if-join_two.true)).1
    | else-join_two w ↦ (changed_no c.args.classes.now c.loop-i.classes c.join_two.new.classes c.loop-i.changed c.if-join_two.changed w.changed-is c.loop-i.invariant.same c.loop-i.invariant.falls (c.join_two.ensures.same w.if-join_two.false)).1
  ];
}
