use Rattle.std.proofs.Common.{arith, refl, sym, ◌∙◌, below_more}
use Rattle.vf_congruence.specs.Meeting.{IsSettledAt}
use Rattle.vf_congruence.proofs.Meeting.{only_none, only_more, changed_yes, changed_no, bounded_none, bounded_more}
use Rattle.vf_congruence.proofs.joining.settle_term.Goals as goal
use Rattle.vf_congruence.proofs.joining.settle_term.Goals.{then-settle_pair, else-settle_pair}

pub loop-b-init : goal.loop-b-init
loop-b-init c = record { settled = λ f k l. absurd (omega arith); kept = λ x y h. h; bounded = bounded_none c.args.classes.now; only = only_none c.args.nodes.now c.args.classes.now; same = λ f. refl; falls = λ t. absurd (cc) }

pub loop-b-preserved : goal.loop-b-preserved
loop-b-preserved c = record {
  settled = λ f. elim c.if-settle_pair.branch [
    | then-settle_pair w ↦ absurd (cc)
    | else-settle_pair w ↦ below_more (λ k. IsSettledAt c.args.nodes.now c.settle_pair.new.classes c.args.a k) c.loop-b.b
        (λ k l. rw (c.settle_pair.ensures.same w.if-settle_pair.false) (c.loop-b.invariant.settled (sym w.changed-is ∙ f) k l))
        (c.settle_pair.ensures.settled w.if-settle_pair.false)
  ];
  kept = λ x y h. c.settle_pair.ensures.kept x y (c.loop-b.invariant.kept x y h);
  bounded = bounded_more c.args.classes.now c.loop-b.classes c.settle_pair.new.classes c.loop-b.auto.classes c.loop-b.invariant.bounded c.settle_pair.ensures.bounded;
  only = only_more c.args.nodes.now c.args.classes.now c.loop-b.classes c.settle_pair.new.classes c.loop-b.invariant.only c.settle_pair.ensures.only;
  same = elim c.if-settle_pair.branch [
    | then-settle_pair w ↦ (changed_yes c.args.classes.now c.loop-b.classes c.settle_pair.new.classes c.loop-b.changed c.if-settle_pair.changed w.changed-is c.loop-b.invariant.same c.loop-b.invariant.falls (c.settle_pair.ensures.falls w.if-settle_pair.true)).0
    | else-settle_pair w ↦ (changed_no c.args.classes.now c.loop-b.classes c.settle_pair.new.classes c.loop-b.changed c.if-settle_pair.changed w.changed-is c.loop-b.invariant.same c.loop-b.invariant.falls (c.settle_pair.ensures.same w.if-settle_pair.false)).0
  ];
  falls = elim c.if-settle_pair.branch [
    | then-settle_pair w ↦ (changed_yes c.args.classes.now c.loop-b.classes c.settle_pair.new.classes c.loop-b.changed c.if-settle_pair.changed w.changed-is c.loop-b.invariant.same c.loop-b.invariant.falls (c.settle_pair.ensures.falls w.if-settle_pair.true)).1
    | else-settle_pair w ↦ (changed_no c.args.classes.now c.loop-b.classes c.settle_pair.new.classes c.loop-b.changed c.if-settle_pair.changed w.changed-is c.loop-b.invariant.same c.loop-b.invariant.falls (c.settle_pair.ensures.same w.if-settle_pair.false)).1
  ];
}
