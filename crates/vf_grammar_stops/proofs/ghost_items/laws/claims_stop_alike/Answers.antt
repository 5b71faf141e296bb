use Rattle.vf_grammar_stops.proofs.ghost_items.Stops.{claims_stop}
use Rattle.vf_grammar_stops.proofs.ghost_items.laws.claims_stop_alike.Goals as goal

pub returns : goal.returns
returns c = λ ts other rest n x e begins h. claims_stop ts other rest n x e begins h
