use Rattle.vf_grammar_stops.proofs.assertions.Stops.{assertions_stop}
use Rattle.vf_grammar_stops.proofs.assertions.laws.assertions_stop_alike.Goals as goal

pub returns : goal.returns
returns c = λ d ts other rest n xs e begins h free. assertions_stop d ts other rest n xs e begins h free
