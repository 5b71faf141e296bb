use Rattle.vf_safety.proofs.ElementFixpoints.{cells_hold_nth}
use Rattle.vf_safety.proofs.element_laws.cells_hold_nth.Goals as goal

pub returns : goal.returns
returns c = cells_hold_nth
