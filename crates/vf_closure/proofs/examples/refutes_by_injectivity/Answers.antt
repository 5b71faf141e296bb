use Rattle.vf_closure.proofs.Refuted.{by_injectivity}
use Rattle.vf_closure.proofs.examples.refutes_by_injectivity.Goals as goal

pub returns : goal.returns
returns c = by_injectivity
