use Rattle.vf_grammar_stops.proofs.patterns.Stops.{any_shares_stop}
use Rattle.vf_grammar_stops.proofs.patterns.laws.any_shares_stop_alike.Goals as goal

pub returns : goal.returns
returns c = λ ts other rest k x e begins h free. any_shares_stop ts other rest k x e begins h free
