use Rattle.vf_meaning.proofs.Values.{divides_by_nought}
use Rattle.vf_meaning.proofs.value_laws.divides_by_nought.Goals as goal

pub returns : goal.returns
returns c = divides_by_nought
