use Rattle.vf_grammar_read.proofs.statements.StmtFull.{statement_full}
use Rattle.vf_grammar_read.proofs.statements.laws.statements_are_read.Goals as goal

pub returns : goal.returns
returns n = λ g c i t d x ts rest h deep real ghost. statement_full g c i t d x ts rest h deep (record { real = real; ghost = ghost })
