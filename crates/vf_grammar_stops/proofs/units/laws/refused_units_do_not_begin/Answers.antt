use Rattle.vf_grammar_stops.proofs.units.Stops.{refused_units}
use Rattle.vf_grammar_stops.proofs.units.laws.refused_units_do_not_begin.Goals as goal

pub returns : goal.returns
returns c = λ result end p tokens a e. refused_units result end p tokens a e
