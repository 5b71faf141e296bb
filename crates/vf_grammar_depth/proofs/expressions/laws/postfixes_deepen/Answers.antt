use Rattle.vf_parse_expression.specs.Parsers.{postfix_at}
use Rattle.vf_grammar_depth.proofs.expressions.Whole.{postfix_deep}
use Rattle.vf_grammar_depth.proofs.expressions.Answers.{answers_deepen}
use Rattle.vf_grammar_depth.proofs.expressions.laws.postfixes_deepen.Goals as goal

pub returns : goal.returns
returns c = λ d m ts lt. answers_deepen postfix_at (λ i k less. postfix_deep i k less) d m ts lt
