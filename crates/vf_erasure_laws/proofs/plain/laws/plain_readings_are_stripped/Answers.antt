use Rattle.vf_erasure_laws.proofs.plain.Read.{read}
use Rattle.vf_erasure_laws.proofs.plain.laws.plain_readings_are_stripped.Goals as goal

pub returns : goal.returns
returns n = read
