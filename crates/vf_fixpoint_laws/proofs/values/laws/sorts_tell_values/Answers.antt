use Rattle.vf_fixpoint_laws.proofs.values.Telling.{sorts_tell_values}
use Rattle.vf_fixpoint_laws.proofs.values.laws.sorts_tell_values.Goals as goal

pub returns : goal.returns
returns c = sorts_tell_values
