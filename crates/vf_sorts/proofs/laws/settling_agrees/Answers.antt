use Rattle.vf_sorts.proofs.Settling.{settling_agrees}
use Rattle.vf_sorts.proofs.laws.settling_agrees.Goals as goal

pub returns : goal.returns
returns c = settling_agrees
