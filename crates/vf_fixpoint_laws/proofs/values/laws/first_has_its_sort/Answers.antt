use Rattle.vf_fixpoint_laws.proofs.values.Example.{first_has_its_sort}
use Rattle.vf_fixpoint_laws.proofs.values.laws.first_has_its_sort.Goals as goal

pub returns : goal.returns
returns c = first_has_its_sort
