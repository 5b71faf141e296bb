use Rattle.vf_safety.proofs.LeakLaws.{nothing_is_lost}
use Rattle.vf_safety.proofs.leak_laws.nothing_is_lost.Goals as goal

pub returns : goal.returns
returns c = nothing_is_lost
