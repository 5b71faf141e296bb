use Rattle.vf_fixpoint_laws.proofs.definable.Laws.{equations_are_preserved}
use Rattle.vf_fixpoint_laws.proofs.definable.equations_are_preserved.Goals as goal

pub returns : goal.returns
returns c = equations_are_preserved
