use Rattle.vf_grammar_read.proofs.terms.TermsFull.{term_full, most_loose}
use Rattle.vf_grammar_read.proofs.terms.Behind.{ended}
use Rattle.vf_grammar_read.proofs.terms.laws.terms_are_read.Goals as goal

pub returns : goal.returns
returns c = λ d x ts rest h deep free. term_full d x ts rest h deep (most_loose x) (ended rest free)
