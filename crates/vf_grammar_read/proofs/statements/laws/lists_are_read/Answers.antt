use Rattle.vf_parse_statement.specs.Parsers.{stmt_at}
use Rattle.vf_grammar_read.proofs.statements.StmtFull.{statement_full, stmts_full, closing_front}
use Rattle.vf_grammar_read.proofs.statements.laws.lists_are_read.Goals as goal

pub returns : goal.returns
returns n = λ g c i t d xs ts rest h deep close. stmts_full g (stmt_at g c i d) d (statement_full g c i t d) xs ts rest h deep (closing_front rest close)
