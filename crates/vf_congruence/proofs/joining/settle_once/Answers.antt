use Rattle.std.proofs.Common.{ℕ, ◌<◌, ◌⊎◌, inl, inr, length, arith, refl, sym, ◌∙◌, below_more}
use Rattle.vf_congruence.specs.Meeting.{IsSettledAt, IsStillAt}
use Rattle.vf_congruence.proofs.Meeting.{only_none, only_more, changed_yes, changed_no, settled_rows, bounded_none, bounded_more}
use Rattle.vf_congruence.proofs.joining.settle_once.Goals as goal
use Rattle.vf_congruence.proofs.joining.settle_once.Goals.{then-settle_if_moved, else-settle_if_moved}

pub loop-a-init : goal.loop-a-init
loop-a-init c = record { settled = λ f j l. absurd (omega arith); kept = λ x y h. h; bounded = bounded_none c.args.classes.now; only = only_none c.args.nodes.now c.args.classes.now; same = λ f. refl; falls = λ t. absurd (cc) }

pub loop-a-preserved : goal.loop-a-preserved
loop-a-preserved c = record {
  settled = λ f. elim c.if-settle_if_moved.branch [
    | then-settle_if_moved w ↦ absurd (cc)
    | else-settle_if_moved w ↦ below_more (λ i. IsStillAt c.args.nodes.now c.args.settled.now c.settle_if_moved.new.classes i ⊎ ((k : ℕ) → k < length c.settle_if_moved.new.classes → IsSettledAt c.args.nodes.now c.settle_if_moved.new.classes i k)) c.loop-a.a
        (λ i h. rw (c.settle_if_moved.ensures.same w.if-settle_if_moved.false) (c.loop-a.invariant.settled (sym w.changed-is ∙ f) i h))
        (elim (c.settle_if_moved.ensures.settled w.if-settle_if_moved.false) [ inl k ↦ inl k | inr k ↦ inr (λ b l. k b (omega arith)) ])
  ];
  kept = λ x y h. c.settle_if_moved.ensures.kept x y (c.loop-a.invariant.kept x y h);
  bounded = bounded_more c.args.classes.now c.loop-a.classes c.settle_if_moved.new.classes c.loop-a.auto.classes c.loop-a.invariant.bounded c.settle_if_moved.ensures.bounded;
  only = only_more c.args.nodes.now c.args.classes.now c.loop-a.classes c.settle_if_moved.new.classes c.loop-a.invariant.only c.settle_if_moved.ensures.only;
  same = elim c.if-settle_if_moved.branch [
    | then-settle_if_moved w ↦ (changed_yes c.args.classes.now c.loop-a.classes c.settle_if_moved.new.classes c.loop-a.changed c.if-settle_if_moved.changed w.changed-is c.loop-a.invariant.same c.loop-a.invariant.falls (c.settle_if_moved.ensures.falls w.if-settle_if_moved.true)).0
    | else-settle_if_moved w ↦ (changed_no c.args.classes.now c.loop-a.classes c.settle_if_moved.new.classes c.loop-a.changed c.if-settle_if_moved.changed w.changed-is c.loop-a.invariant.same c.loop-a.invariant.falls (c.settle_if_moved.ensures.same w.if-settle_if_moved.false)).0
  ];
  falls = elim c.if-settle_if_moved.branch [
    | then-settle_if_moved w ↦ (changed_yes c.args.classes.now c.loop-a.classes c.settle_if_moved.new.classes c.loop-a.changed c.if-settle_if_moved.changed w.changed-is c.loop-a.invariant.same c.loop-a.invariant.falls (c.settle_if_moved.ensures.falls w.if-settle_if_moved.true)).1
    | else-settle_if_moved w ↦ (changed_no c.args.classes.now c.loop-a.classes c.settle_if_moved.new.classes c.loop-a.changed c.if-settle_if_moved.changed w.changed-is c.loop-a.invariant.same c.loop-a.invariant.falls (c.settle_if_moved.ensures.same w.if-settle_if_moved.false)).1
  ];
}

pub returns-clause-settled : goal.returns-clause-settled
returns-clause-settled c = λ f. settled_rows c.args.nodes.now c.args.settled.now c.loop-a.classes c.requires.settled (λ j l. c.loop-a.invariant.settled f j (omega arith))
