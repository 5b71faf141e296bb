use Rattle.vf_grammar_stops.proofs.units.Stops.{items_stop}
use Rattle.vf_grammar_stops.proofs.units.laws.plain_items_stop_alike.Goals as goal

pub returns : goal.returns
returns c = λ d ts other rest k x e begins h. items_stop d ts other rest k x e begins h
