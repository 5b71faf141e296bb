use Rattle.vf_combination.proofs.Marked.{followed_noted, marked_noted}
use Rattle.vf_combination.proofs.exchange.settle_at.Goals as goal

pub returns-clause-followed : goal.returns-clause-followed
returns-clause-followed c = followed_noted c.args.classes.now c.args.bounds.now c.args.clashed.now c.note_clash.new.clashed c.exchange_at.new.classes c.exchange_at.new.bounds c.args.x c.args.y c.note_clash.ensures.kept c.note_clash.ensures.only
    (c.in_ok-given.ensures.followed c.note_clash.new.clashed)

pub returns-clause-marked : goal.returns-clause-marked
returns-clause-marked c = marked_noted c.args.classes.now c.args.bounds.now c.args.clashed.now c.note_clash.new.clashed c.args.marks.now c.exchange_at.new.classes c.exchange_at.new.bounds c.exchange_at.new.marks c.note_clash.ensures.kept
    (c.in_ok-given.ensures.marked c.note_clash.new.clashed)

pub returns-clause-quiet : goal.returns-clause-quiet
returns-clause-quiet c = c.in_ok-given.ensures.quiet c.note_clash.new.clashed c.note_clash.ensures.seen
