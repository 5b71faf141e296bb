use Rattle.vf_grammar_stops.proofs.ghost_items.Stops.{ghost_items_refuse}
use Rattle.vf_grammar_stops.proofs.ghost_items.laws.ghost_items_refuse_alike.Goals as goal

pub returns : goal.returns
returns c = λ d m ts other n le e begins. ghost_items_refuse d m ts other n le e begins
