use Rattle.vf_grammar_stops.proofs.commands.Stops.{commands_stop}
use Rattle.vf_grammar_stops.proofs.commands.laws.commands_stop_alike.Goals as goal

pub returns : goal.returns
returns c = λ d ts other rest n x e begins h none. commands_stop d ts other rest n x e begins h none
