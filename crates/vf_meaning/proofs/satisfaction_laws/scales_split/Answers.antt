use Rattle.vf_meaning.proofs.Satisfaction.{scales_split}
use Rattle.vf_meaning.proofs.satisfaction_laws.scales_split.Goals as goal

pub returns : goal.returns
returns c = scales_split
