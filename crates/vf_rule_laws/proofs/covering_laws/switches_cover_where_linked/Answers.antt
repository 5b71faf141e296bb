use Rattle.vf_rule_laws.proofs.Covering.{switches_cover_where_linked}
use Rattle.vf_rule_laws.proofs.covering_laws.switches_cover_where_linked.Goals as goal

pub returns : goal.returns
returns c = switches_cover_where_linked
