use Rattle.vf_grammar_stops.proofs.chunks.Stops.{begun_terms_stop}
use Rattle.vf_grammar_stops.proofs.chunks.laws.begun_terms_stop_alike.Goals as goal

pub returns : goal.returns
returns c = λ d p ts other rest k e eq begins here h free further. begun_terms_stop d p ts other rest k e eq begins here h free further
