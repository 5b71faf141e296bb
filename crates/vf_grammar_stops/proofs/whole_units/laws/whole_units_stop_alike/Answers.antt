use Rattle.vf_grammar_stops.proofs.whole_units.Stops.{wholes_stop}
use Rattle.vf_grammar_stops.proofs.whole_units.laws.whole_units_stop_alike.Goals as goal

pub returns : goal.returns
returns c = λ d ts other k u e begins h. wholes_stop d ts other k u e begins h
