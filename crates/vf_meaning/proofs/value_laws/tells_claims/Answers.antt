use Rattle.vf_meaning.proofs.Values.{tells_claims}
use Rattle.vf_meaning.proofs.value_laws.tells_claims.Goals as goal

pub returns : goal.returns
returns c = tells_claims
