use Rattle.vf_combination.proofs.Onward.{on_join}
use Rattle.vf_combination.proofs.Marked.{followed_join, marked_join, both_quiet}
use Rattle.vf_combination.proofs.exchange.settle_in_turn.Goals as goal

pub returns-then-given-clause-on : goal.returns-then-given-clause-on
returns-then-given-clause-on c = on_join c.args.classes.now c.args.bounds.now c.settle_at.new.classes c.settle_at.new.bounds c.settle_at-2.new.classes c.settle_at-2.new.bounds c.in_ok-given.ensures.on c.in_ok-given_back.ensures.on

pub returns-then-given-clause-followed : goal.returns-then-given-clause-followed
returns-then-given-clause-followed c = followed_join c.args.classes.now c.args.bounds.now c.args.clashed.now c.settle_at.new.classes c.settle_at.new.bounds c.settle_at.new.clashed c.settle_at-2.new.classes c.settle_at-2.new.bounds c.settle_at-2.new.clashed
    c.in_ok-given.ensures.on.classes.nodes c.in_ok-given.ensures.followed c.in_ok-given_back.ensures.followed

pub returns-then-given-clause-marked : goal.returns-then-given-clause-marked
returns-then-given-clause-marked c = marked_join c.args.classes.now c.args.bounds.now c.args.clashed.now c.args.marks.now c.settle_at.new.classes c.settle_at.new.bounds c.settle_at.new.clashed c.settle_at.new.marks
    c.settle_at-2.new.classes c.settle_at-2.new.bounds c.settle_at-2.new.clashed c.settle_at-2.new.marks c.in_ok-given_back.ensures.followed.grown.edges_kept c.in_ok-given.ensures.marked c.in_ok-given_back.ensures.marked

pub returns-then-given-clause-quiet : goal.returns-then-given-clause-quiet
returns-then-given-clause-quiet c = both_quiet c.settle_at.new.classes c.settle_at.new.bounds c.settle_at.new.clashed c.settle_at.new.marks c.settle_at-2.new.classes c.settle_at-2.new.bounds c.settle_at-2.new.clashed c.settle_at-2.new.marks c.args.x c.args.y
    c.in_ok-given_back.ensures.followed.grown.edges_kept c.in_ok-given_back.ensures.marked c.in_ok-given.ensures.quiet c.in_ok-given_back.ensures.quiet

pub returns-else-given-clause-on : goal.returns-else-given-clause-on
returns-else-given-clause-on c = on_join c.args.classes.now c.args.bounds.now c.settle_at.new.classes c.settle_at.new.bounds c.settle_at-2.new.classes c.settle_at-2.new.bounds c.in_ok-given.ensures.on c.in_ok-given_back.ensures.on

pub returns-else-given-clause-followed : goal.returns-else-given-clause-followed
returns-else-given-clause-followed c = followed_join c.args.classes.now c.args.bounds.now c.args.clashed.now c.settle_at.new.classes c.settle_at.new.bounds c.settle_at.new.clashed c.settle_at-2.new.classes c.settle_at-2.new.bounds c.settle_at-2.new.clashed
    c.in_ok-given.ensures.on.classes.nodes c.in_ok-given.ensures.followed c.in_ok-given_back.ensures.followed

pub returns-else-given-clause-marked : goal.returns-else-given-clause-marked
returns-else-given-clause-marked c = marked_join c.args.classes.now c.args.bounds.now c.args.clashed.now c.args.marks.now c.settle_at.new.classes c.settle_at.new.bounds c.settle_at.new.clashed c.settle_at.new.marks
    c.settle_at-2.new.classes c.settle_at-2.new.bounds c.settle_at-2.new.clashed c.settle_at-2.new.marks c.in_ok-given_back.ensures.followed.grown.edges_kept c.in_ok-given.ensures.marked c.in_ok-given_back.ensures.marked

pub returns-else-given-clause-quiet : goal.returns-else-given-clause-quiet
returns-else-given-clause-quiet c = both_quiet c.settle_at.new.classes c.settle_at.new.bounds c.settle_at.new.clashed c.settle_at.new.marks c.settle_at-2.new.classes c.settle_at-2.new.bounds c.settle_at-2.new.clashed c.settle_at-2.new.marks c.args.x c.args.y
    c.in_ok-given_back.ensures.followed.grown.edges_kept c.in_ok-given_back.ensures.marked c.in_ok-given.ensures.quiet c.in_ok-given_back.ensures.quiet
