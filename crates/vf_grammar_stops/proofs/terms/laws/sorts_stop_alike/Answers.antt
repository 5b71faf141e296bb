use Rattle.vf_grammar_stops.proofs.terms.Stops.{sorts_stop}
use Rattle.vf_grammar_stops.proofs.terms.laws.sorts_stop_alike.Goals as goal

pub returns : goal.returns
returns c = λ d ts other rest n x e begins h free. sorts_stop d ts other rest n x e begins h free
