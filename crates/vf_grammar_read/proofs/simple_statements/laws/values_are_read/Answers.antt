use Rattle.vf_parse_expression.specs.Parsers.{expr_at}
use Rattle.vf_grammar_read.proofs.expressions.ExprFull.{expr_full}
use Rattle.vf_grammar_read.proofs.expressions.Behind.{ended}
use Rattle.vf_grammar_read.proofs.simple_statements.SimplesFull.{optional_value_full}
use Rattle.vf_grammar_read.proofs.simple_statements.laws.values_are_read.Goals as goal

pub returns : goal.returns
returns c = λ d x ts rest h deep free stop. optional_value_full (expr_at d) d (expr_full d) x ts rest h deep (ended rest free) stop
