use Rattle.vf_order_laws.proofs.walk.Examples.{first_in_expressions}
use Rattle.vf_order_laws.proofs.walk.first_in_examples.Goals as goal

pub returns : goal.returns
returns c = first_in_expressions
