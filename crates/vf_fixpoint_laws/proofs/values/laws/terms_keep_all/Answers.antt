use Rattle.vf_fixpoint_laws.proofs.values.Values.{terms_keep_all}
use Rattle.vf_fixpoint_laws.proofs.values.laws.terms_keep_all.Goals as goal

pub returns : goal.returns
returns c = terms_keep_all
