use Rattle.vf_grammar_stops.proofs.units.Stops.{units_stop}
use Rattle.vf_grammar_stops.proofs.units.laws.plain_units_stop_alike.Goals as goal

pub returns : goal.returns
returns c = λ d ts other k u e begins h. units_stop d ts other k u e begins h
