use Rattle.vf_parse_expression.specs.Parsers.{expr_at, postfix_at}
use Rattle.vf_grammar_read.proofs.expressions.ExprFull.{expr_full, postfix_full}
use Rattle.vf_grammar_read.proofs.simple_statements.SimplesFull.{closed, first_full}
use Rattle.vf_grammar_read.proofs.simple_statements.laws.firsts_are_read.Goals as goal

pub returns : goal.returns
returns c = λ d x ts rest h deep free. first_full (expr_at d) (postfix_at d) d (expr_full d) (postfix_full d) x ts rest h deep (closed rest free)
