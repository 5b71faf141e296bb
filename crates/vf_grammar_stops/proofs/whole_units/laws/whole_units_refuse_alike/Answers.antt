use Rattle.vf_grammar_stops.proofs.whole_units.Stops.{wholes_refuse}
use Rattle.vf_grammar_stops.proofs.whole_units.laws.whole_units_refuse_alike.Goals as goal

pub returns : goal.returns
returns c = λ d m ts other n le e begins. wholes_refuse d m ts other n le e begins
