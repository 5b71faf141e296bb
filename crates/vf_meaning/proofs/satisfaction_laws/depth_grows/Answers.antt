use Rattle.vf_meaning.proofs.Satisfaction.{depth_grows}
use Rattle.vf_meaning.proofs.satisfaction_laws.depth_grows.Goals as goal

pub returns : goal.returns
returns c = depth_grows
