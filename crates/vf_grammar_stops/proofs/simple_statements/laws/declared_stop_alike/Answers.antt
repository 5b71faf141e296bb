use Rattle.vf_grammar_stops.proofs.simple_statements.Stops.{declared_stop}
use Rattle.vf_grammar_stops.proofs.simple_statements.laws.declared_stop_alike.Goals as goal

pub returns : goal.returns
returns c = λ ts other rest k t n e begins h. declared_stop ts other rest k t n e begins h
