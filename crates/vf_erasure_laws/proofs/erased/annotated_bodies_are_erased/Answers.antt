use Rattle.vf_erasure_laws.proofs.erased.Laws.{annotated_bodies}
use Rattle.vf_erasure_laws.proofs.erased.annotated_bodies_are_erased.Goals as goal

pub returns : goal.returns
returns c = annotated_bodies
