use Rattle.vf_grammar_stops.proofs.patterns.Stops.{patterns_stop}
use Rattle.vf_grammar_stops.proofs.patterns.laws.patterns_stop_alike.Goals as goal

pub returns : goal.returns
returns c = λ d ts other rest k x e begins h free. patterns_stop d ts other rest k x e begins h free
