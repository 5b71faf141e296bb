use Rattle.vf_meaning.proofs.Fractions.{order_is_transitive}
use Rattle.vf_meaning.proofs.fraction_laws.order_is_transitive.Goals as goal

pub returns : goal.returns
returns c = order_is_transitive
