use Rattle.vf_meaning.proofs.Joins.{chunks_join}
use Rattle.vf_meaning.proofs.satisfaction_laws.chunks_join.Goals as goal

pub returns : goal.returns
returns c = chunks_join
