use Rattle.vf_rules.proofs.Opening.{opening_keeps}
use Rattle.vf_rules.proofs.predicate_laws.opening_keeps.Goals as goal

pub returns : goal.returns
returns c = opening_keeps
