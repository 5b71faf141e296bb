use Rattle.vf_grammar_stops.proofs.commands.Stops.{ghost_bodies_refuse}
use Rattle.vf_grammar_stops.proofs.commands.laws.ghost_bodies_refuse_alike.Goals as goal

pub returns : goal.returns
returns c = λ d m ts other n le e begins. ghost_bodies_refuse d m ts other n le e begins
