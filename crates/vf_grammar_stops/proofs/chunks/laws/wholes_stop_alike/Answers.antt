use Rattle.vf_grammar_stops.proofs.chunks.Stops.{wholes_stop}
use Rattle.vf_grammar_stops.proofs.chunks.laws.wholes_stop_alike.Goals as goal

pub returns : goal.returns
returns c = λ d p ts other rest k x e begins here h whole free. wholes_stop d p ts other rest k x e begins here h whole free
