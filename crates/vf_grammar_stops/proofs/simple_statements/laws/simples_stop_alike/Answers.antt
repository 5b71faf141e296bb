use Rattle.vf_grammar_stops.proofs.simple_statements.Stops.{simples_stop}
use Rattle.vf_grammar_stops.proofs.simple_statements.laws.simples_stop_alike.Goals as goal

pub returns : goal.returns
returns c = λ d ts other rest k x e begins h free. simples_stop d ts other rest k x e begins h free
