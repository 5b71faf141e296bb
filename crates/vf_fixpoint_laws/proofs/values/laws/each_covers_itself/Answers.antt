use Rattle.vf_fixpoint_laws.proofs.values.Covering.{covers_itself}
use Rattle.vf_fixpoint_laws.proofs.values.laws.each_covers_itself.Goals as goal

pub returns : goal.returns
returns c = covers_itself
