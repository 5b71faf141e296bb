use Rattle.vf_recheck.proofs.Sound.{definitions_show}
use Rattle.vf_recheck.proofs.laws.definitions_entail.Goals as goal

pub returns : goal.returns
returns c = definitions_show
