use Rattle.vf_parse_statement.specs.Parsers.{stmt_at}
use Rattle.vf_parse_statement.proofs.Sound.{statement_sound, stmts_sound}
use Rattle.vf_parse_statement.proofs.laws.lists_are_spelled.Goals as goal

pub returns : goal.returns
returns x = λ g c i hc hi d ts s rest e. stmts_sound g (stmt_at g c i d) d (statement_sound g c i hc hi d) ts s rest e
