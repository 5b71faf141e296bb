use Rattle.vf_grammar_stops.proofs.statements.Stops.{bodies_stop}
use Rattle.vf_grammar_stops.proofs.statements.laws.plain_bodies_stop_alike.Goals as goal

pub returns : goal.returns
returns c = λ d ts other rest k x e begins h. bodies_stop d ts other rest k x e begins h
