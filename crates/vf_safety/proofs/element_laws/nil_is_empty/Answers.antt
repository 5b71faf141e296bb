use Rattle.vf_safety.proofs.ElementFixpoints.{nil_is_empty}
use Rattle.vf_safety.proofs.element_laws.nil_is_empty.Goals as goal

pub returns : goal.returns
returns c = nil_is_empty
