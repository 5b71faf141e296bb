use Rattle.vf_linked.proofs.Linked.{linked_programs_are_safe}
use Rattle.vf_linked.proofs.laws.linked_programs_are_safe.Goals as goal

pub returns : goal.returns
returns c = linked_programs_are_safe
