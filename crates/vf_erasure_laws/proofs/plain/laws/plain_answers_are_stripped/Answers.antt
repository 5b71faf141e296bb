use Rattle.vf_erasure_laws.proofs.plain.Read.{answered}
use Rattle.vf_erasure_laws.proofs.plain.laws.plain_answers_are_stripped.Goals as goal

pub returns : goal.returns
returns n = answered
