use Rattle.vf_grammar_read.proofs.units.UnitFull.{plain_units_read}
use Rattle.vf_grammar_read.proofs.units.laws.plain_units_are_read.Goals as goal

pub returns : goal.returns
returns n = λ d u ts s. plain_units_read d u ts s
