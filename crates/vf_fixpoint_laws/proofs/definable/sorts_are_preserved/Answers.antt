use Rattle.vf_fixpoint_laws.proofs.definable.Laws.{sorts_are_preserved}
use Rattle.vf_fixpoint_laws.proofs.definable.sorts_are_preserved.Goals as goal

pub returns : goal.returns
returns c = sorts_are_preserved
