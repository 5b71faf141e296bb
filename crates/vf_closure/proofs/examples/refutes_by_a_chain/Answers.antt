use Rattle.vf_closure.proofs.Refuted.{by_chain}
use Rattle.vf_closure.proofs.examples.refutes_by_a_chain.Goals as goal

pub returns : goal.returns
returns c = by_chain
