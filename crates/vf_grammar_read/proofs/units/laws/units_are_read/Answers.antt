use Rattle.vf_grammar_read.proofs.units.UnitFull.{units_read}
use Rattle.vf_grammar_read.proofs.units.laws.units_are_read.Goals as goal

pub returns : goal.returns
returns n = λ g c i k l x f d u ts s. units_read g c i k l x f d u ts s
