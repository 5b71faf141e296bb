use Rattle.vf_parse_simple.proofs.Sound.{declared_sound}
use Rattle.vf_parse_simple.proofs.laws.declared_are_spelled.Goals as goal

pub returns : goal.returns
returns c = λ ts x rest e. declared_sound ts x rest e
