use Rattle.vf_parse_pattern.specs.Patterns.{any_patterns_at}
use Rattle.vf_grammar_depth.proofs.terms.Whole.{answers_deepen_by_two}
use Rattle.vf_grammar_depth.proofs.patterns.Whole.{any_patterns_rises}
use Rattle.vf_grammar_depth.proofs.patterns.laws.any_patterns_deepen.Goals as goal

pub returns : goal.returns
returns c = λ d m ts lt. answers_deepen_by_two any_patterns_at any_patterns_rises d m ts lt
