use Rattle.vf_safety.proofs.ElementFixpoints.{lengths_are_less}
use Rattle.vf_safety.proofs.element_laws.lengths_are_less.Goals as goal

pub returns : goal.returns
returns c = lengths_are_less
