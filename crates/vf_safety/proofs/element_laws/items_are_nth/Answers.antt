use Rattle.vf_safety.proofs.ElementFixpoints.{items_are_nth}
use Rattle.vf_safety.proofs.element_laws.items_are_nth.Goals as goal

pub returns : goal.returns
returns c = items_are_nth
