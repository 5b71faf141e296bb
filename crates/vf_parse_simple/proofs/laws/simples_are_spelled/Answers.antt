use Rattle.vf_parse_expression.specs.Parsers.{expr_at, postfix_at}
use Rattle.vf_parse_expression.proofs.Sound.{expr_sound, postfix_sound}
use Rattle.vf_parse_simple.proofs.Sound.{simple_sound}
use Rattle.vf_parse_simple.proofs.laws.simples_are_spelled.Goals as goal

pub returns : goal.returns
returns c = λ d ts x rest e. simple_sound (expr_at d) (postfix_at d) d (expr_sound d) (postfix_sound d) ts x rest e
