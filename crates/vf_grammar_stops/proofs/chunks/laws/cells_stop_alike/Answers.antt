use Rattle.vf_grammar_stops.proofs.chunks.Stops.{cells_stop}
use Rattle.vf_grammar_stops.proofs.chunks.laws.cells_stop_alike.Goals as goal

pub returns : goal.returns
returns c = λ d p e ts other rest k f v eq begins h free. cells_stop d p e ts other rest k f v eq begins h free
