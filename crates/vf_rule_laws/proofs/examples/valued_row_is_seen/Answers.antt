use Rattle.vf_rule_laws.proofs.Example.{valued_row_is_seen}
use Rattle.vf_rule_laws.proofs.examples.valued_row_is_seen.Goals as goal

pub returns : goal.returns
returns c = valued_row_is_seen
