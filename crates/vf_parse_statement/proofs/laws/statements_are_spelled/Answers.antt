use Rattle.vf_parse_statement.proofs.Sound.{statement_sound}
use Rattle.vf_parse_statement.proofs.laws.statements_are_spelled.Goals as goal

pub returns : goal.returns
returns x = λ g c i hc hi d ts s rest e. statement_sound g c i hc hi d ts s rest e
