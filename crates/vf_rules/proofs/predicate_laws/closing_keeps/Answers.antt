use Rattle.vf_rules.proofs.Opening.{closing_keeps}
use Rattle.vf_rules.proofs.predicate_laws.closing_keeps.Goals as goal

pub returns : goal.returns
returns c = closing_keeps
