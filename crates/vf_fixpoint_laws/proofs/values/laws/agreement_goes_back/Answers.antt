use Rattle.vf_fixpoint_laws.proofs.values.Before.{agreement_goes_back}
use Rattle.vf_fixpoint_laws.proofs.values.laws.agreement_goes_back.Goals as goal

pub returns : goal.returns
returns c = agreement_goes_back
