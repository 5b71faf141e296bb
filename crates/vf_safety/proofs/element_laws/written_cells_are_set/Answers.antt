use Rattle.vf_safety.proofs.ElementFixpoints.{written_cells_are_set}
use Rattle.vf_safety.proofs.element_laws.written_cells_are_set.Goals as goal

pub returns : goal.returns
returns c = written_cells_are_set
