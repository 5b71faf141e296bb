use Rattle.vf_grammar_read.proofs.simple_statements.SimplesFull.{closed, one_simple}
use Rattle.vf_grammar_read.proofs.simple_statements.laws.simples_have_one_reading.Goals as goal

pub returns : goal.returns
returns c = λ x y ts rest h k free. one_simple x y ts rest h k (closed rest free)
