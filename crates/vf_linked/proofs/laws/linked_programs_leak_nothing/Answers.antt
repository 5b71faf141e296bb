use Rattle.vf_linked.proofs.Linked.{linked_programs_leak_nothing}
use Rattle.vf_linked.proofs.laws.linked_programs_leak_nothing.Goals as goal

pub returns : goal.returns
returns c = linked_programs_leak_nothing
