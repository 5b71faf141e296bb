use Rattle.vf_grammar_read.proofs.terms.Behind.{ended}
use Rattle.vf_grammar_read.proofs.chunks.ChunksFull.{stops, whole_full, term_begun, term_ended, cell_ended}
use Rattle.vf_grammar_read.proofs.chunks.laws.chunks_are_read.Goals as goal

pub returns-clause-whole : goal.returns-clause-whole
returns-clause-whole c = λ d p x ts rest here h w deep free. whole_full d p x ts rest here h w deep (stops rest free)

pub returns-clause-begun : goal.returns-clause-begun
returns-clause-begun c = λ k d p e ts rest here h deep free further. term_begun k d p e ts rest here h deep (ended rest free) further

pub returns-clause-ended : goal.returns-clause-ended
returns-clause-ended c = term_ended

pub returns-clause-cells : goal.returns-clause-cells
returns-clause-cells c = λ d p e f v ts rest h deep free. cell_ended d p e f v ts rest h deep (ended rest free)
