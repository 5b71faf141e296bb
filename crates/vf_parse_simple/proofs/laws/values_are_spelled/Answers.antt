use Rattle.vf_parse_expression.specs.Parsers.{expr_at}
use Rattle.vf_parse_expression.proofs.Sound.{expr_sound}
use Rattle.vf_parse_simple.proofs.Sound.{optional_value_sound}
use Rattle.vf_parse_simple.proofs.laws.values_are_spelled.Goals as goal

pub returns : goal.returns
returns c = λ d ts x rest e. optional_value_sound (expr_at d) d (expr_sound d) ts x rest e
