use Rattle.vf_grammar_read.proofs.units.UnitFull.{one_unit}
use Rattle.vf_grammar_read.proofs.units.laws.plain_units_have_one_reading.Goals as goal

pub returns : goal.returns
returns n = λ d e u v ts s t. one_unit d e u v ts s t
