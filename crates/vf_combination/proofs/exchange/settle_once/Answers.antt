use Rattle.std.proofs.Common.{◌≡◌, sym, ◌∙◌, subst, below_more, Bool, true, false}
use Rattle.vf_combination.specs.Exchanged.{IsUnmarked, HaveFallen}
use Rattle.vf_combination.proofs.Onward.{on_join}
use Rattle.vf_combination.proofs.Marked.{followed_join, fallen_then, fallen_else, fine_same}
use Rattle.vf_combination.proofs.exchange.settle_once.Goals as goal
use Rattle.vf_combination.proofs.exchange.settle_once.Goals.{then-branch+else-conflict, else-branch}

pub returns-then-conflict-clause-on : goal.returns-then-conflict-clause-on
returns-then-conflict-clause-on c = on_join c.args.classes.now c.args.bounds.now c.loop-x.classes c.loop-x.bounds c.settle_if_marked.new.classes c.settle_if_marked.new.bounds c.loop-x.invariant.on c.in_ok-settle_if_marked.ensures.on

pub returns-then-conflict-clause-followed : goal.returns-then-conflict-clause-followed
returns-then-conflict-clause-followed c = followed_join c.args.classes.now c.args.bounds.now c.args.clashed.now c.loop-x.classes c.loop-x.bounds c.loop-x.clashed c.settle_if_marked.new.classes c.settle_if_marked.new.bounds c.settle_if_marked.new.clashed c.loop-x.invariant.on.classes.nodes c.loop-x.invariant.followed c.in_ok-settle_if_marked.ensures.followed

pub loop-x-preserved : goal.loop-x-preserved
loop-x-preserved c = elim c.if-branch.branch [
  | then-branch+else-conflict w ↦ record {
    fine = λ h. let e : false ≡ true = w.if-conflict.ensures.1 h in cc;
    on = on_join c.args.classes.now c.args.bounds.now c.loop-x.classes c.loop-x.bounds c.settle_if_marked.new.classes c.settle_if_marked.new.bounds c.loop-x.invariant.on c.in_ok-settle_if_marked.ensures.on;
    followed = followed_join c.args.classes.now c.args.bounds.now c.args.clashed.now c.loop-x.classes c.loop-x.bounds c.loop-x.clashed c.settle_if_marked.new.classes c.settle_if_marked.new.bounds c.settle_if_marked.new.clashed c.loop-x.invariant.on.classes.nodes c.loop-x.invariant.followed c.in_ok-settle_if_marked.ensures.followed;
    elsewhere = c.in_ok-settle_if_marked.ensures.elsewhere (λ h. let e : false ≡ true = w.if-conflict.ensures.1 h in cc);
    unmarked = λ f. absurd (let e : true ≡ false = sym w.given-is ∙ f in cc);
    fallen = subst (λ (g : Bool). HaveFallen g c.args.classes.now c.args.bounds.now c.settle_if_marked.new.classes c.settle_if_marked.new.bounds) (sym w.given-is)
        (fallen_then c.loop-x.given c.args.classes.now c.args.bounds.now c.loop-x.classes c.loop-x.bounds c.settle_if_marked.new.classes c.settle_if_marked.new.bounds c.in_ok-settle_if_marked.ensures.followed.grown.edges_kept c.loop-x.invariant.fallen
        (subst (λ (g : Bool). HaveFallen g c.loop-x.classes c.loop-x.bounds c.settle_if_marked.new.classes c.settle_if_marked.new.bounds) w.if-branch.true c.in_ok-settle_if_marked.ensures.fallen));
  }
  | else-branch w ↦ record {
    fine = fine_same c.loop-x.bounds c.settle_if_marked.new.bounds (c.in_ok-settle_if_marked.ensures.fallen.same w.if-branch.false).1 c.loop-x.invariant.fine;
    on = on_join c.args.classes.now c.args.bounds.now c.loop-x.classes c.loop-x.bounds c.settle_if_marked.new.classes c.settle_if_marked.new.bounds c.loop-x.invariant.on c.in_ok-settle_if_marked.ensures.on;
    followed = followed_join c.args.classes.now c.args.bounds.now c.args.clashed.now c.loop-x.classes c.loop-x.bounds c.loop-x.clashed c.settle_if_marked.new.classes c.settle_if_marked.new.bounds c.settle_if_marked.new.clashed c.loop-x.invariant.on.classes.nodes c.loop-x.invariant.followed c.in_ok-settle_if_marked.ensures.followed;
    elsewhere = c.in_ok-settle_if_marked.ensures.elsewhere (fine_same c.loop-x.bounds c.settle_if_marked.new.bounds (c.in_ok-settle_if_marked.ensures.fallen.same w.if-branch.false).1 c.loop-x.invariant.fine);
    unmarked = λ f. below_more (IsUnmarked c.settle_if_marked.new.marks) c.loop-x.x (λ k l. c.in_ok-settle_if_marked.ensures.others w.if-branch.false k (c.loop-x.invariant.unmarked (sym w.given-is ∙ f) k l)) (c.in_ok-settle_if_marked.ensures.unmarked w.if-branch.false);
    fallen = subst (λ (g : Bool). HaveFallen g c.args.classes.now c.args.bounds.now c.settle_if_marked.new.classes c.settle_if_marked.new.bounds) (sym w.given-is)
        (fallen_else c.loop-x.given c.args.classes.now c.args.bounds.now c.loop-x.classes c.loop-x.bounds c.settle_if_marked.new.classes c.settle_if_marked.new.bounds c.in_ok-settle_if_marked.ensures.followed.grown.edges_kept c.loop-x.invariant.fallen
        (subst (λ (g : Bool). HaveFallen g c.loop-x.classes c.loop-x.bounds c.settle_if_marked.new.classes c.settle_if_marked.new.bounds) w.if-branch.false c.in_ok-settle_if_marked.ensures.fallen));
  }
]
