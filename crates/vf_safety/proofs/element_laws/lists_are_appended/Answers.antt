use Rattle.vf_safety.proofs.ElementFixpoints.{lists_are_appended}
use Rattle.vf_safety.proofs.element_laws.lists_are_appended.Goals as goal

pub returns : goal.returns
returns c = lists_are_appended
