use Rattle.vf_fixpoint_laws.proofs.values.Covering.{covers_compose}
use Rattle.vf_fixpoint_laws.proofs.values.laws.covers_compose.Goals as goal

pub returns : goal.returns
returns c = covers_compose
