use Rattle.vf_grammar_read.proofs.statements.StmtFull.{one_body}
use Rattle.vf_grammar_read.proofs.statements.laws.plain_bodies_have_one_reading.Goals as goal

pub returns : goal.returns
returns n = λ x y ts rest h k. one_body x y ts rest h k
