use Rattle.std.specs.Prelude.{[]}
use Rattle.vf_grammar_read.proofs.supported.UnitsClean.{unit_clean}
use Rattle.vf_grammar_read.proofs.supported.laws.spelled_units_are_supported.Goals as goal

pub returns : goal.returns
returns n = λ g d u ts s. (unit_clean g u).clean ts [] s.spelled
