use Rattle.vf_meaning.proofs.Satisfaction.{halves_split}
use Rattle.vf_meaning.proofs.satisfaction_laws.halves_split.Goals as goal

pub returns : goal.returns
returns c = halves_split
