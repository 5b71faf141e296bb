use Rattle.vf_combination.proofs.Standing.{fact_settled}
use Rattle.vf_combination.proofs.taking.assume_settled.Goals as goal

pub returns-in-Ok-clause-settled : goal.returns-in-Ok-clause-settled
returns-in-Ok-clause-settled c = λ facts s. fact_settled c.args.classes.now c.args.bounds.now c.args.clashed.now c.take_fact.new.classes c.take_fact.new.bounds c.take_fact.new.clashed c.args.fact facts
    c.in-Ok.ensures.on.classes.nodes c.in-Ok.ensures.gained c.in-Ok.ensures.clash c.in-Ok.ensures.quiet c.requires.fine s
