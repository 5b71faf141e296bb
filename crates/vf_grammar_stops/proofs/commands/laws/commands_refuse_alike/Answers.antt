use Rattle.vf_grammar_stops.proofs.commands.Stops.{commands_refuse}
use Rattle.vf_grammar_stops.proofs.commands.laws.commands_refuse_alike.Goals as goal

pub returns : goal.returns
returns c = λ d m ts other n le e begins. commands_refuse d m ts other n le e begins
