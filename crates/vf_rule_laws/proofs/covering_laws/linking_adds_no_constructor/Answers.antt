use Rattle.vf_rule_laws.proofs.Covering.{linking_adds_no_constructor}
use Rattle.vf_rule_laws.proofs.covering_laws.linking_adds_no_constructor.Goals as goal

pub returns : goal.returns
returns c = linking_adds_no_constructor
