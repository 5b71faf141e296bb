use Rattle.vf_safety.proofs.ElementFixpoints.{lengths_are_more}
use Rattle.vf_safety.proofs.element_laws.lengths_are_more.Goals as goal

pub returns : goal.returns
returns c = lengths_are_more
