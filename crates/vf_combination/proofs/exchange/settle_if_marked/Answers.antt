use Rattle.vf_combination.proofs.Marked.{elsewhere_of}
use Rattle.vf_combination.proofs.exchange.settle_if_marked.Goals as goal

pub returns-clause-elsewhere : goal.returns-clause-elsewhere
returns-clause-elsewhere c = λ fine. elsewhere_of c.args.classes.now c.args.bounds.now c.args.clashed.now c.args.marks.now c.settle_beside.new.classes c.settle_beside.new.bounds c.settle_beside.new.clashed c.settle_beside.new.marks c.args.x
    fine c.requires.long c.requires.elsewhere c.in_ok-given.ensures.marked (c.in_ok-given.ensures.quiet fine)
