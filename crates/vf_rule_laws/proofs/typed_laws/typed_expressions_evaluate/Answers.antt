use Rattle.vf_rule_laws.proofs.Typed.{typed_expressions_evaluate}
use Rattle.vf_rule_laws.proofs.typed_laws.typed_expressions_evaluate.Goals as goal

pub returns : goal.returns
returns c = typed_expressions_evaluate
