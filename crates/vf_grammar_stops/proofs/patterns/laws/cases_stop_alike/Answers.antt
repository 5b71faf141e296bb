use Rattle.vf_grammar_stops.proofs.patterns.Stops.{cases_stop}
use Rattle.vf_grammar_stops.proofs.patterns.laws.cases_stop_alike.Goals as goal

pub returns : goal.returns
returns c = λ ts other rest k x e begins h free. cases_stop ts other rest k x e begins h free
