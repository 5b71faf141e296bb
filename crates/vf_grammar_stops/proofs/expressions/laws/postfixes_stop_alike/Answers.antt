use Rattle.vf_grammar_stops.proofs.expressions.Stops.{postfixes_stop}
use Rattle.vf_grammar_stops.proofs.expressions.laws.postfixes_stop_alike.Goals as goal

pub returns : goal.returns
returns c = λ d ts other rest n x e begins h close free. postfixes_stop d ts other rest n x e begins h close free
