use Rattle.vf_meaning.proofs.Values.{tells_values}
use Rattle.vf_meaning.proofs.value_laws.tells_values.Goals as goal

pub returns : goal.returns
returns c = tells_values
