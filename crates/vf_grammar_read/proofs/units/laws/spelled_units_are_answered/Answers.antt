use Rattle.vf_grammar_read.proofs.units.Answered.{answered}
use Rattle.vf_grammar_read.proofs.units.laws.spelled_units_are_answered.Goals as goal

pub returns : goal.returns
returns n = λ r end u ts a s. answered r end u ts a s
