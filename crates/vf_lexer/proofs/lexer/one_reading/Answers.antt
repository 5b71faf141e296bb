use Rattle.vf_lexer.proofs.Laws.{same_tokens}
use Rattle.vf_lexer.proofs.Cutting.{cut_gives}
use Rattle.vf_lexer.proofs.Faults.{one_fault, never_cut}
use Rattle.vf_lexer.proofs.lexer.one_reading.Goals as goal

pub returns-clause-tokens : goal.returns-clause-tokens
returns-clause-tokens c = λ header file bytes first second g h. same_tokens (cut_gives header file bytes first g) (cut_gives header file bytes second h)

pub returns-clause-places : goal.returns-clause-places
returns-clause-places c = one_fault

pub returns-clause-never_both : goal.returns-clause-never_both
returns-clause-never_both c = never_cut
