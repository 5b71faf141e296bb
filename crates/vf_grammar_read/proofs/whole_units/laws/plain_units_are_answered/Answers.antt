use Rattle.vf_grammar_read.proofs.whole_units.WholeFull.{plain_answered}
use Rattle.vf_grammar_read.proofs.whole_units.laws.plain_units_are_answered.Goals as goal

pub returns : goal.returns
returns n = plain_answered
