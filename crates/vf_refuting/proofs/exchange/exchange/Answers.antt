use Rattle.vf_refuting.proofs.Running.{goes_more}
use Rattle.vf_refuting.proofs.exchange.exchange.Goals as goal

pub returns-then-conflict-2-clause-goes : goal.returns-then-conflict-2-clause-goes
returns-then-conflict-2-clause-goes c = goes_more c.loop-run.invariant.goes c.in_ok-exchange_once.ensures.goes
