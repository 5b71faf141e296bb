use Rattle.vf_grammar_read.proofs.units.UnitFull.{items_read}
use Rattle.vf_grammar_read.proofs.units.laws.items_are_read.Goals as goal

pub returns : goal.returns
returns n = λ g c i k l x f d a ts rest h deep. items_read g c i k l x f d a ts rest h deep
