use Rattle.vf_parse_pattern.specs.Patterns.{patterns_at}
use Rattle.vf_grammar_depth.proofs.terms.Whole.{answers_deepen_by_two}
use Rattle.vf_grammar_depth.proofs.patterns.Whole.{patterns_rises}
use Rattle.vf_grammar_depth.proofs.patterns.laws.pattern_lists_deepen.Goals as goal

pub returns : goal.returns
returns c = λ d m ts lt. answers_deepen_by_two patterns_at patterns_rises d m ts lt
