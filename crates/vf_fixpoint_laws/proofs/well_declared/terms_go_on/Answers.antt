use Rattle.vf_fixpoint_laws.proofs.well_declared.UpTo.{terms_go_on}
use Rattle.vf_fixpoint_laws.proofs.well_declared.terms_go_on.Goals as goal

pub returns : goal.returns
returns c = terms_go_on
