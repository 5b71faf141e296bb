use Rattle.vf_grammar_stops.proofs.ghost_items.Stops.{contracts_stop}
use Rattle.vf_grammar_stops.proofs.ghost_items.laws.contracts_stop_alike.Goals as goal

pub returns : goal.returns
returns c = λ d ts other rest n x e begins h. contracts_stop d ts other rest n x e begins h
