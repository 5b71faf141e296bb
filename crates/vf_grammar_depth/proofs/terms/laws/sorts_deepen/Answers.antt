use Rattle.vf_parse_term.specs.Sorts.{sort_at}
use Rattle.vf_grammar_depth.proofs.expressions.Answers.{answers_deepen}
use Rattle.vf_grammar_depth.proofs.terms.Whole.{sort_rises}
use Rattle.vf_grammar_depth.proofs.terms.laws.sorts_deepen.Goals as goal

pub returns : goal.returns
returns c = λ d m ts lt. answers_deepen sort_at sort_rises d m ts lt
