use Rattle.vf_grammar_stops.proofs.types.TypesAlike.{types_stop}
use Rattle.vf_grammar_stops.proofs.types.laws.types_stop_alike.Goals as goal

pub returns : goal.returns
returns c = λ s ts other rest n t e begins h wide star. types_stop s ts other rest n t e begins h wide star
