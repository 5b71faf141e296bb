use Rattle.vf_grammar_stops.proofs.ghost_items.Stops.{ghost_items_stop}
use Rattle.vf_grammar_stops.proofs.ghost_items.laws.ghost_items_stop_alike.Goals as goal

pub returns : goal.returns
returns c = λ d ts other rest n x e begins h. ghost_items_stop d ts other rest n x e begins h
