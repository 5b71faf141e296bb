use Rattle.vf_meaning.proofs.Joins.{rows_join}
use Rattle.vf_meaning.proofs.satisfaction_laws.rows_join.Goals as goal

pub returns : goal.returns
returns c = rows_join
