use Rattle.vf_parse_whole.specs.Wholes.{whole_at}
use Rattle.vf_grammar_depth.proofs.terms.Whole.{answers_deepen_by_two}
use Rattle.vf_grammar_depth.proofs.whole_units.Whole.{wholes_rise}
use Rattle.vf_grammar_depth.proofs.whole_units.laws.whole_units_deepen.Goals as goal

pub returns : goal.returns
returns c = λ d m ts lt. answers_deepen_by_two whole_at wholes_rise d m ts lt
