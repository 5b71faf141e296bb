use Rattle.vf_grammar_read.proofs.whole_units.WholeFull.{one_unit}
use Rattle.vf_grammar_read.proofs.whole_units.laws.units_have_one_reading.Goals as goal

pub returns : goal.returns
returns n = one_unit
