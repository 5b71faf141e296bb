use Rattle.vf_rule_laws.proofs.Covering.{each_constructor_covers}
use Rattle.vf_rule_laws.proofs.covering_laws.each_constructor_covers.Goals as goal

pub returns : goal.returns
returns c = each_constructor_covers
