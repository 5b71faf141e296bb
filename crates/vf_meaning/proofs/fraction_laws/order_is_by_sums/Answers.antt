use Rattle.vf_meaning.proofs.Fractions.{order_is_by_sums}
use Rattle.vf_meaning.proofs.fraction_laws.order_is_by_sums.Goals as goal

pub returns : goal.returns
returns c = order_is_by_sums
