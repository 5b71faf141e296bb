use Rattle.vf_fractions.proofs.Quotients.{differences_add_up}
use Rattle.vf_fractions.proofs.laws.differences_add_up.Goals as goal

pub returns : goal.returns
returns c = differences_add_up
