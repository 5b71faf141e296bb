use Rattle.vf_refuting.proofs.Running.{logged}
use Rattle.vf_refuting.proofs.exchange.derive_equal.Goals as goal

pub returns-clause-goes : goal.returns-clause-goes
returns-clause-goes c = logged c.args.run.now c.why.new.log c.requires.run c.in_ok-step.ensures.continued
