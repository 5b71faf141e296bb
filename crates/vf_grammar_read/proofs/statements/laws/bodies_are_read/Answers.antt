use Rattle.vf_grammar_read.proofs.statements.StmtFull.{bodies_full}
use Rattle.vf_grammar_read.proofs.statements.laws.bodies_are_read.Goals as goal

pub returns : goal.returns
returns n = λ g c i t d x ts rest h deep. bodies_full g c i t d x ts rest h deep
