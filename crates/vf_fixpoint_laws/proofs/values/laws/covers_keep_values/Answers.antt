use Rattle.vf_fixpoint_laws.proofs.values.Covering.{covers_keep_values}
use Rattle.vf_fixpoint_laws.proofs.values.laws.covers_keep_values.Goals as goal

pub returns : goal.returns
returns c = covers_keep_values
