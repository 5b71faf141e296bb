use Rattle.vf_meaning.proofs.Joins.{cells_join}
use Rattle.vf_meaning.proofs.satisfaction_laws.cells_join.Goals as goal

pub returns : goal.returns
returns c = cells_join
