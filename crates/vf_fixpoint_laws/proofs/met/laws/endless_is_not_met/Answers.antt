use Rattle.vf_fixpoint_laws.proofs.met.Endless.{endless_is_not_met}
use Rattle.vf_fixpoint_laws.proofs.met.laws.endless_is_not_met.Goals as goal

pub returns : goal.returns
returns c = endless_is_not_met
