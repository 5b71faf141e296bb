use Rattle.vf_grammar_stops.proofs.assertions.Stops.{assertions_refuse}
use Rattle.vf_grammar_stops.proofs.assertions.laws.assertions_refuse_alike.Goals as goal

pub returns : goal.returns
returns c = λ d m ts other n le e begins. assertions_refuse d m ts other n le e begins
