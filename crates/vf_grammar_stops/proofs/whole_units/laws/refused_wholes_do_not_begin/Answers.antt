use Rattle.vf_grammar_stops.proofs.whole_units.Stops.{refused_wholes}
use Rattle.vf_grammar_stops.proofs.whole_units.laws.refused_wholes_do_not_begin.Goals as goal

pub returns : goal.returns
returns c = λ result end p tokens a e. refused_wholes result end p tokens a e
