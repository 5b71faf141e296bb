use Rattle.vf_fixpoint_laws.proofs.well_declared.UpTo.{declarations_go_on}
use Rattle.vf_fixpoint_laws.proofs.well_declared.declarations_go_on.Goals as goal

pub returns : goal.returns
returns c = declarations_go_on
