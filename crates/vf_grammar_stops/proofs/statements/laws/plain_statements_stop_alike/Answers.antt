use Rattle.vf_grammar_stops.proofs.statements.Stops.{statements_stop}
use Rattle.vf_grammar_stops.proofs.statements.laws.plain_statements_stop_alike.Goals as goal

pub returns : goal.returns
returns c = λ d ts other rest k x e begins h real ghost. statements_stop d ts other rest k x e begins h real ghost
