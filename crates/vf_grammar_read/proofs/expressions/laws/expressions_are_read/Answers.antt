use Rattle.vf_grammar_read.proofs.expressions.ExprFull.{expr_full, at_most}
use Rattle.vf_grammar_read.proofs.expressions.Behind.{ended}
use Rattle.vf_grammar_read.proofs.expressions.laws.expressions_are_read.Goals as goal

pub returns : goal.returns
returns c = λ d x ts rest h deep free. expr_full d x ts rest h deep (at_most x) (ended rest free)
