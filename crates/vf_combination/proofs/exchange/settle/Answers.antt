use Rattle.std.proofs.Common.{◌≡◌, true, false}
use Rattle.vf_combination.proofs.Onward.{on_join}
use Rattle.vf_combination.proofs.Marked.{followed_join}
use Rattle.vf_combination.proofs.exchange.settle.Goals as goal

pub returns-then-conflict-2-clause-followed : goal.returns-then-conflict-2-clause-followed
returns-then-conflict-2-clause-followed c = followed_join c.args.classes.now c.args.bounds.now c.args.clashed.now c.loop-bounds.classes c.loop-bounds.bounds c.loop-bounds.clashed c.settle_once.new.classes c.settle_once.new.bounds c.settle_once.new.clashed
    c.loop-bounds.invariant.on.classes.nodes c.loop-bounds.invariant.followed c.in_ok-settle_once.ensures.followed

pub loop-bounds-preserved : goal.loop-bounds-preserved
loop-bounds-preserved c = record {
  fine = λ h. let e : false ≡ true = c.if-conflict-2.ensures.1 h in cc;
  on = on_join c.args.classes.now c.args.bounds.now c.loop-bounds.classes c.loop-bounds.bounds c.settle_once.new.classes c.settle_once.new.bounds c.loop-bounds.invariant.on c.in_ok-settle_once.ensures.on;
  followed = followed_join c.args.classes.now c.args.bounds.now c.args.clashed.now c.loop-bounds.classes c.loop-bounds.bounds c.loop-bounds.clashed c.settle_once.new.classes c.settle_once.new.bounds c.settle_once.new.clashed
      c.loop-bounds.invariant.on.classes.nodes c.loop-bounds.invariant.followed c.in_ok-settle_once.ensures.followed;
  elsewhere = c.in_ok-settle_once.ensures.elsewhere (λ h. let e : false ≡ true = c.if-conflict-2.ensures.1 h in cc);
}
