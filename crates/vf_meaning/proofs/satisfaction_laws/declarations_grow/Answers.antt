use Rattle.vf_meaning.proofs.Growth.{declarations_grow}
use Rattle.vf_meaning.proofs.satisfaction_laws.declarations_grow.Goals as goal

pub returns : goal.returns
returns c = declarations_grow
