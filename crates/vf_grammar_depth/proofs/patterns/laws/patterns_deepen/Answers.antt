use Rattle.vf_parse_pattern.specs.Patterns.{pattern_at}
use Rattle.vf_grammar_depth.proofs.terms.Whole.{answers_deepen_by_two}
use Rattle.vf_grammar_depth.proofs.patterns.Whole.{pattern_rises}
use Rattle.vf_grammar_depth.proofs.patterns.laws.patterns_deepen.Goals as goal

pub returns : goal.returns
returns c = λ d m ts lt. answers_deepen_by_two pattern_at pattern_rises d m ts lt
