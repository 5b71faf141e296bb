use Rattle.vf_model.proofs.Machine.{fault_by_any_grant}
use Rattle.vf_model.proofs.laws.faults_by_any_grant.Goals as goal

pub returns : goal.returns
returns c = fault_by_any_grant
