use Rattle.vf_grammar_stops.proofs.expressions.Stops.{expressions_stop}
use Rattle.vf_grammar_stops.proofs.expressions.laws.expressions_stop_alike.Goals as goal

pub returns : goal.returns
returns c = λ d ts other rest n x e begins h free. expressions_stop d ts other rest n x e begins h free
