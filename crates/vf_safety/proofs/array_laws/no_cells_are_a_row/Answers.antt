use Rattle.vf_safety.proofs.ArrayLemmas.{no_cells_are_a_row}
use Rattle.vf_safety.proofs.array_laws.no_cells_are_a_row.Goals as goal

pub returns : goal.returns
returns c = no_cells_are_a_row
