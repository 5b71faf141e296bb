use Rattle.std.proofs.Common.{arith}
use Rattle.std.proofs.lemmas.Bool.{le-leb}
use Rattle.vf_syntax.specs.Expressions.{rank}
use Rattle.vf_parse_expression.proofs.Sound.{postfix_sound}
use Rattle.vf_parse_expression.proofs.laws.postfixes_are_spelled.Goals as goal

pub returns : goal.returns
returns c = λ d ts x rest e. let h = postfix_sound d ts x rest e in (h.walk, omega (arith, h.deep), le-leb (rank x) 1 h.close)
