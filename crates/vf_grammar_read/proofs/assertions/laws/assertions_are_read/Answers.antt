use Rattle.vf_grammar_read.proofs.assertions.Ends.{ended_at_all}
use Rattle.vf_grammar_read.proofs.assertions.AssertionsFull.{assertion_full}
use Rattle.vf_grammar_read.proofs.assertions.laws.assertions_are_read.Goals as goal

pub returns : goal.returns
returns c = λ d xs ts rest h deep free. assertion_full d xs ts rest h deep (ended_at_all rest free)
