use Rattle.vf_model.proofs.Equality.{signatures_told}
use Rattle.vf_model.proofs.laws.tells_signatures.Goals as goal

pub returns : goal.returns
returns c = signatures_told
