use Rattle.vf_meaning.proofs.Values.{tells_names}
use Rattle.vf_meaning.proofs.value_laws.tells_names.Goals as goal

pub returns : goal.returns
returns c = tells_names
