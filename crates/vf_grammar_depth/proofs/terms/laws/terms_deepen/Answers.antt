use Rattle.vf_parse_term.specs.Terms.{term_at}
use Rattle.vf_grammar_depth.proofs.terms.Whole.{term_rises, answers_deepen_by_two}
use Rattle.vf_grammar_depth.proofs.terms.laws.terms_deepen.Goals as goal

pub returns : goal.returns
returns c = λ d m ts lt. answers_deepen_by_two term_at term_rises d m ts lt
