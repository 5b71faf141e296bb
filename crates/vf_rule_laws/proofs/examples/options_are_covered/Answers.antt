use Rattle.vf_rule_laws.proofs.Example.{options_are_covered}
use Rattle.vf_rule_laws.proofs.examples.options_are_covered.Goals as goal

pub returns : goal.returns
returns c = options_are_covered
