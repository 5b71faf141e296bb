use Rattle.vf_parse_assertion.specs.Parsers.{assertion_at}
use Rattle.vf_grammar_depth.proofs.terms.Whole.{answers_deepen_by_two}
use Rattle.vf_grammar_depth.proofs.assertions.Whole.{assertion_rises}
use Rattle.vf_grammar_depth.proofs.assertions.laws.assertions_deepen.Goals as goal

pub returns : goal.returns
returns c = λ d m ts lt. answers_deepen_by_two assertion_at assertion_rises d m ts lt
