use Rattle.vf_grammar_read.proofs.assertions.Ends.{ended_at_all}
use Rattle.vf_grammar_read.proofs.assertions.AssertionsFull.{one_assertion}
use Rattle.vf_grammar_read.proofs.assertions.laws.assertions_have_one_reading.Goals as goal

pub returns : goal.returns
returns c = λ xs ys ts rest h k free. one_assertion xs ys ts rest h k (ended_at_all rest free)
