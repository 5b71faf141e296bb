use Rattle.vf_safety.proofs.ElementFixpoints.{rows_show_lengths}
use Rattle.vf_safety.proofs.element_laws.rows_show_lengths.Goals as goal

pub returns : goal.returns
returns c = rows_show_lengths
