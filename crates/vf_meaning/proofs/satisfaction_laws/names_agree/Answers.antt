use Rattle.vf_meaning.proofs.Growth.{names_agree}
use Rattle.vf_meaning.proofs.satisfaction_laws.names_agree.Goals as goal

pub returns : goal.returns
returns c = names_agree
