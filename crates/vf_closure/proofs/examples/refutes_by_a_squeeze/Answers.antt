use Rattle.vf_closure.proofs.Refuted.{by_squeeze}
use Rattle.vf_closure.proofs.examples.refutes_by_a_squeeze.Goals as goal

pub returns : goal.returns
returns c = by_squeeze
