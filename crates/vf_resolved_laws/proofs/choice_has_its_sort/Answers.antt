use Rattle.vf_resolved_laws.proofs.Example.{choice_has_its_sort}
use Rattle.vf_resolved_laws.proofs.choice_has_its_sort.Goals as goal

pub returns : goal.returns
returns c = choice_has_its_sort
