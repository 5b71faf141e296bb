use Rattle.vf_parse_expression.specs.Parsers.{expr_at, postfix_at}
use Rattle.vf_parse_simple.specs.Simples.{simple_at}
use Rattle.vf_grammar_depth.proofs.expressions.Answers.{answers_deepen}
use Rattle.vf_grammar_depth.proofs.statements.Whole.{simples_rise}
use Rattle.vf_grammar_depth.proofs.statements.laws.simples_deepen.Goals as goal

pub returns : goal.returns
returns c = λ d m ts lt. answers_deepen (λ n. simple_at (expr_at n) (postfix_at n)) simples_rise d m ts lt
