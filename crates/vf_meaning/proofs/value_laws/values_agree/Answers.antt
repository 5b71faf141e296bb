use Rattle.vf_meaning.proofs.Values.{agreed}
use Rattle.vf_meaning.proofs.value_laws.values_agree.Goals as goal

pub returns : goal.returns
returns c = agreed
