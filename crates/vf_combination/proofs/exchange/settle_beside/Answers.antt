use Rattle.std.proofs.Common.{◌≡◌, sym, ◌∙◌, subst, below_more, Bool, true, false}
use Rattle.vf_combination.specs.Exchanged.{IsUnmarked, AreQuiet, HaveFallen}
use Rattle.vf_combination.proofs.Onward.{on_join}
use Rattle.vf_combination.proofs.Marked.{followed_join, marked_join, both_kept, fallen_then, fallen_else, fine_same}
use Rattle.vf_combination.proofs.exchange.settle_beside.Goals as goal
use Rattle.vf_combination.proofs.exchange.settle_beside.Goals.{then-branch+else-conflict, else-branch}

pub returns-then-conflict-clause-on : goal.returns-then-conflict-clause-on
returns-then-conflict-clause-on c = on_join c.args.classes.now c.args.bounds.now c.loop-y.classes c.loop-y.bounds c.settle_both.new.classes c.settle_both.new.bounds c.loop-y.invariant.on c.in_ok-settle_both.ensures.on

pub returns-then-conflict-clause-followed : goal.returns-then-conflict-clause-followed
returns-then-conflict-clause-followed c = followed_join c.args.classes.now c.args.bounds.now c.args.clashed.now c.loop-y.classes c.loop-y.bounds c.loop-y.clashed c.settle_both.new.classes c.settle_both.new.bounds c.settle_both.new.clashed c.loop-y.invariant.on.classes.nodes c.loop-y.invariant.followed c.in_ok-settle_both.ensures.followed

pub returns-then-conflict-clause-marked : goal.returns-then-conflict-clause-marked
returns-then-conflict-clause-marked c = marked_join c.args.classes.now c.args.bounds.now c.args.clashed.now c.args.marks.now c.loop-y.classes c.loop-y.bounds c.loop-y.clashed c.loop-y.marks c.settle_both.new.classes c.settle_both.new.bounds c.settle_both.new.clashed c.settle_both.new.marks c.in_ok-settle_both.ensures.followed.grown.edges_kept c.loop-y.invariant.marked c.in_ok-settle_both.ensures.marked

pub loop-y-preserved : goal.loop-y-preserved
loop-y-preserved c = elim c.if-branch.branch [
  | then-branch+else-conflict w ↦ record {
    fine = λ h. let e : false ≡ true = w.if-conflict.ensures.1 h in cc;
    on = on_join c.args.classes.now c.args.bounds.now c.loop-y.classes c.loop-y.bounds c.settle_both.new.classes c.settle_both.new.bounds c.loop-y.invariant.on c.in_ok-settle_both.ensures.on;
    followed = followed_join c.args.classes.now c.args.bounds.now c.args.clashed.now c.loop-y.classes c.loop-y.bounds c.loop-y.clashed c.settle_both.new.classes c.settle_both.new.bounds c.settle_both.new.clashed c.loop-y.invariant.on.classes.nodes c.loop-y.invariant.followed c.in_ok-settle_both.ensures.followed;
    marked = marked_join c.args.classes.now c.args.bounds.now c.args.clashed.now c.args.marks.now c.loop-y.classes c.loop-y.bounds c.loop-y.clashed c.loop-y.marks c.settle_both.new.classes c.settle_both.new.bounds c.settle_both.new.clashed c.settle_both.new.marks c.in_ok-settle_both.ensures.followed.grown.edges_kept c.loop-y.invariant.marked c.in_ok-settle_both.ensures.marked;
    quiet = below_more (λ k. IsUnmarked c.settle_both.new.marks c.args.x → IsUnmarked c.settle_both.new.marks k → AreQuiet c.settle_both.new.classes c.settle_both.new.bounds c.settle_both.new.clashed c.args.x k × AreQuiet c.settle_both.new.classes c.settle_both.new.bounds c.settle_both.new.clashed k c.args.x) c.loop-y.y
        (λ k l. both_kept c.loop-y.classes c.loop-y.bounds c.loop-y.clashed c.loop-y.marks c.settle_both.new.classes c.settle_both.new.bounds c.settle_both.new.clashed c.settle_both.new.marks c.args.x k (λ h. let e : false ≡ true = w.if-conflict.ensures.1 h in cc) c.in_ok-settle_both.ensures.marked (c.loop-y.invariant.quiet k l))
        (c.in_ok-settle_both.ensures.quiet (λ h. let e : false ≡ true = w.if-conflict.ensures.1 h in cc));
    same = λ f. absurd (let e : true ≡ false = sym w.given-is ∙ f in cc);
    fallen = subst (λ (g : Bool). HaveFallen g c.args.classes.now c.args.bounds.now c.settle_both.new.classes c.settle_both.new.bounds) (sym w.given-is)
        (fallen_then c.loop-y.given c.args.classes.now c.args.bounds.now c.loop-y.classes c.loop-y.bounds c.settle_both.new.classes c.settle_both.new.bounds c.in_ok-settle_both.ensures.followed.grown.edges_kept c.loop-y.invariant.fallen
        (subst (λ (g : Bool). HaveFallen g c.loop-y.classes c.loop-y.bounds c.settle_both.new.classes c.settle_both.new.bounds) w.if-branch.true c.in_ok-settle_both.ensures.fallen));
  }
  | else-branch w ↦ record {
    fine = fine_same c.loop-y.bounds c.settle_both.new.bounds (c.in_ok-settle_both.ensures.fallen.same w.if-branch.false).1 c.loop-y.invariant.fine;
    on = on_join c.args.classes.now c.args.bounds.now c.loop-y.classes c.loop-y.bounds c.settle_both.new.classes c.settle_both.new.bounds c.loop-y.invariant.on c.in_ok-settle_both.ensures.on;
    followed = followed_join c.args.classes.now c.args.bounds.now c.args.clashed.now c.loop-y.classes c.loop-y.bounds c.loop-y.clashed c.settle_both.new.classes c.settle_both.new.bounds c.settle_both.new.clashed c.loop-y.invariant.on.classes.nodes c.loop-y.invariant.followed c.in_ok-settle_both.ensures.followed;
    marked = marked_join c.args.classes.now c.args.bounds.now c.args.clashed.now c.args.marks.now c.loop-y.classes c.loop-y.bounds c.loop-y.clashed c.loop-y.marks c.settle_both.new.classes c.settle_both.new.bounds c.settle_both.new.clashed c.settle_both.new.marks c.in_ok-settle_both.ensures.followed.grown.edges_kept c.loop-y.invariant.marked c.in_ok-settle_both.ensures.marked;
    quiet = below_more (λ k. IsUnmarked c.settle_both.new.marks c.args.x → IsUnmarked c.settle_both.new.marks k → AreQuiet c.settle_both.new.classes c.settle_both.new.bounds c.settle_both.new.clashed c.args.x k × AreQuiet c.settle_both.new.classes c.settle_both.new.bounds c.settle_both.new.clashed k c.args.x) c.loop-y.y
        (λ k l. both_kept c.loop-y.classes c.loop-y.bounds c.loop-y.clashed c.loop-y.marks c.settle_both.new.classes c.settle_both.new.bounds c.settle_both.new.clashed c.settle_both.new.marks c.args.x k (fine_same c.loop-y.bounds c.settle_both.new.bounds (c.in_ok-settle_both.ensures.fallen.same w.if-branch.false).1 c.loop-y.invariant.fine) c.in_ok-settle_both.ensures.marked (c.loop-y.invariant.quiet k l))
        (c.in_ok-settle_both.ensures.quiet (fine_same c.loop-y.bounds c.settle_both.new.bounds (c.in_ok-settle_both.ensures.fallen.same w.if-branch.false).1 c.loop-y.invariant.fine));
    same = λ f. c.in_ok-settle_both.ensures.same w.if-branch.false ∙ c.loop-y.invariant.same (sym w.given-is ∙ f);
    fallen = subst (λ (g : Bool). HaveFallen g c.args.classes.now c.args.bounds.now c.settle_both.new.classes c.settle_both.new.bounds) (sym w.given-is)
        (fallen_else c.loop-y.given c.args.classes.now c.args.bounds.now c.loop-y.classes c.loop-y.bounds c.settle_both.new.classes c.settle_both.new.bounds c.in_ok-settle_both.ensures.followed.grown.edges_kept c.loop-y.invariant.fallen
        (subst (λ (g : Bool). HaveFallen g c.loop-y.classes c.loop-y.bounds c.settle_both.new.classes c.settle_both.new.bounds) w.if-branch.false c.in_ok-settle_both.ensures.fallen));
  }
]
