use Rattle.vf_erasure_laws.proofs.plain.Read.{plain}
use Rattle.vf_erasure_laws.proofs.plain.laws.wholes_are_plain.Goals as goal

pub returns : goal.returns
returns n = plain
