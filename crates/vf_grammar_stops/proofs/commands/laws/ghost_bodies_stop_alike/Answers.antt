use Rattle.vf_grammar_stops.proofs.commands.Stops.{ghost_bodies_stop}
use Rattle.vf_grammar_stops.proofs.commands.laws.ghost_bodies_stop_alike.Goals as goal

pub returns : goal.returns
returns c = λ d ts other rest n x e begins h. ghost_bodies_stop d ts other rest n x e begins h
