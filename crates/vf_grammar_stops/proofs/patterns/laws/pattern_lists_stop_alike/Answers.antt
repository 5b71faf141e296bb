use Rattle.vf_grammar_stops.proofs.patterns.Stops.{pattern_lists_stop}
use Rattle.vf_grammar_stops.proofs.patterns.laws.pattern_lists_stop_alike.Goals as goal

pub returns : goal.returns
returns c = λ d ts other rest k xs e begins h. pattern_lists_stop d ts other rest k xs e begins h
