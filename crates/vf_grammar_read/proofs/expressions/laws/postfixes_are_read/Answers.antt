use Rattle.std.proofs.Common.{arith}
use Rattle.std.proofs.lemmas.Bool.{leb-true}
use Rattle.vf_syntax.specs.Expressions.{rank}
use Rattle.vf_grammar_read.proofs.expressions.Behind.{partless}
use Rattle.vf_grammar_read.proofs.expressions.ExprFull.{postfix_full}
use Rattle.vf_grammar_read.proofs.expressions.laws.postfixes_are_read.Goals as goal

pub returns : goal.returns
returns c = λ d x ts rest h deep close free. postfix_full d x ts rest h (omega (arith, deep)) (leb-true (rank x) 1 close) (partless rest free)
