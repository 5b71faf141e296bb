use Rattle.vf_grammar_read.proofs.terms.SortsFull.{ended, sort_full}
use Rattle.vf_grammar_read.proofs.terms.laws.sorts_are_read.Goals as goal

pub returns : goal.returns
returns c = λ d x ts rest h deep free. sort_full d x ts rest h deep (ended rest free)
