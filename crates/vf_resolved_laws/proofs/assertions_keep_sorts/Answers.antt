use Rattle.vf_resolved_laws.proofs.Asserting.{assertions_keep_sorts}
use Rattle.vf_resolved_laws.proofs.assertions_keep_sorts.Goals as goal

pub returns : goal.returns
returns c = assertions_keep_sorts
