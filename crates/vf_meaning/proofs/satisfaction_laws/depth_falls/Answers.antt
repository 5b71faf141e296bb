use Rattle.vf_meaning.proofs.Satisfaction.{depth_falls}
use Rattle.vf_meaning.proofs.satisfaction_laws.depth_falls.Goals as goal

pub returns : goal.returns
returns c = depth_falls
