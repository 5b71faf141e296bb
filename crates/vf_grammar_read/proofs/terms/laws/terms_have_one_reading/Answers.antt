use Rattle.vf_grammar_read.proofs.terms.TermsFull.{one_term}
use Rattle.vf_grammar_read.proofs.terms.laws.terms_have_one_reading.Goals as goal

pub returns : goal.returns
returns c = λ x y ts rest h k free. one_term x y ts rest h k free
