use Rattle.vf_parse_ghost.specs.Clauses.{contract_at}
use Rattle.vf_grammar_depth.proofs.terms.Whole.{answers_deepen_by_two}
use Rattle.vf_grammar_depth.proofs.ghost_items.Whole.{contract_rises}
use Rattle.vf_grammar_depth.proofs.ghost_items.laws.contracts_deepen.Goals as goal

pub returns : goal.returns
returns c = λ d m ts lt. answers_deepen_by_two contract_at contract_rises d m ts lt
