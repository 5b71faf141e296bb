use Rattle.vf_grammar_stops.proofs.ghost_items.Stops.{invariants_refuse}
use Rattle.vf_grammar_stops.proofs.ghost_items.laws.invariants_refuse_alike.Goals as goal

pub returns : goal.returns
returns c = λ d m ts other n le e begins. invariants_refuse d m ts other n le e begins
