use Rattle.vf_grammar_read.proofs.whole_units.WholeFull.{answered}
use Rattle.vf_grammar_read.proofs.whole_units.laws.spelled_units_are_answered.Goals as goal

pub returns : goal.returns
returns n = answered
