use Rattle.vf_model.proofs.Equality.{identities_told}
use Rattle.vf_model.proofs.laws.tells_identities.Goals as goal

pub returns : goal.returns
returns c = identities_told
