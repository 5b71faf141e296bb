use Rattle.vf_grammar_read.proofs.expressions.OneReading.{one_expression}
use Rattle.vf_grammar_read.proofs.expressions.laws.expressions_have_one_reading.Goals as goal

pub returns : goal.returns
returns c = λ x y ts rest h k free. one_expression x y ts rest h k free
