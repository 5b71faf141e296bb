use Rattle.vf_grammar_stops.proofs.ghost_items.Stops.{invariants_stop}
use Rattle.vf_grammar_stops.proofs.ghost_items.laws.invariants_stop_alike.Goals as goal

pub returns : goal.returns
returns c = λ d ts other rest n x e begins h. invariants_stop d ts other rest n x e begins h
