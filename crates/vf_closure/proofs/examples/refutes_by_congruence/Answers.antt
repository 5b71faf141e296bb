use Rattle.vf_closure.proofs.Refuted.{by_congruence}
use Rattle.vf_closure.proofs.examples.refutes_by_congruence.Goals as goal

pub returns : goal.returns
returns c = by_congruence
