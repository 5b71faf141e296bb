use Rattle.vf_parse_real.specs.Units.{plain_at}
use Rattle.vf_grammar_depth.proofs.expressions.Answers.{answers_deepen}
use Rattle.vf_grammar_depth.proofs.units.Places.{plain_units_rise}
use Rattle.vf_grammar_depth.proofs.units.laws.plain_units_deepen.Goals as goal

pub returns : goal.returns
returns c = λ d m ts lt. answers_deepen plain_at plain_units_rise d m ts lt
