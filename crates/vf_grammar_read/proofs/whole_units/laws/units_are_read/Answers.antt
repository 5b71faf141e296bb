use Rattle.vf_grammar_read.proofs.whole_units.WholeFull.{whole_read}
use Rattle.vf_grammar_read.proofs.whole_units.laws.units_are_read.Goals as goal

pub returns : goal.returns
returns n = whole_read
