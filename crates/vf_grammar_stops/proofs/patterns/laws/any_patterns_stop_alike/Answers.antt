use Rattle.vf_grammar_stops.proofs.patterns.Stops.{any_patterns_stop}
use Rattle.vf_grammar_stops.proofs.patterns.laws.any_patterns_stop_alike.Goals as goal

pub returns : goal.returns
returns c = λ d ts other rest k x e begins h free. any_patterns_stop d ts other rest k x e begins h free
