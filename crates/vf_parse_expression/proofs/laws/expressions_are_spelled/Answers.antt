use Rattle.vf_parse_expression.proofs.Sound.{expr_sound}
use Rattle.vf_parse_expression.proofs.laws.expressions_are_spelled.Goals as goal

pub returns : goal.returns
returns c = λ d ts x rest e. let h = expr_sound d ts x rest e in (h.walk, h.deep)
