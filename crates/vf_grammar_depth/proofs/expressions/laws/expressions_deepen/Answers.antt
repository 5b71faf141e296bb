use Rattle.vf_parse_expression.specs.Parsers.{expr_at}
use Rattle.vf_grammar_depth.proofs.expressions.Whole.{expr_deep}
use Rattle.vf_grammar_depth.proofs.expressions.Answers.{answers_deepen}
use Rattle.vf_grammar_depth.proofs.expressions.laws.expressions_deepen.Goals as goal

pub returns : goal.returns
returns c = λ d m ts lt. answers_deepen expr_at (λ i k less. expr_deep i k less) d m ts lt
