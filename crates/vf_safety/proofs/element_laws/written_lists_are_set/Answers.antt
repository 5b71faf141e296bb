use Rattle.vf_safety.proofs.ElementFixpoints.{written_lists_are_set}
use Rattle.vf_safety.proofs.element_laws.written_lists_are_set.Goals as goal

pub returns : goal.returns
returns c = written_lists_are_set
