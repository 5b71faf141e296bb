use Rattle.vf_rule_laws.proofs.Quotients.{quotients_are_in_range}
use Rattle.vf_rule_laws.proofs.typed_laws.quotients_are_in_range.Goals as goal

pub returns : goal.returns
returns c = quotients_are_in_range
