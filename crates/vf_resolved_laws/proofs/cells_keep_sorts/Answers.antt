use Rattle.vf_resolved_laws.proofs.Chunks.{cells_keep_sorts}
use Rattle.vf_resolved_laws.proofs.cells_keep_sorts.Goals as goal

pub returns : goal.returns
returns c = cells_keep_sorts
