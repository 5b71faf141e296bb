use Rattle.vf_parse_ghost.specs.Items.{item_at}
use Rattle.vf_grammar_depth.proofs.terms.Whole.{answers_deepen_by_two}
use Rattle.vf_grammar_depth.proofs.ghost_items.Whole.{item_rises}
use Rattle.vf_grammar_depth.proofs.ghost_items.laws.ghost_items_deepen.Goals as goal

pub returns : goal.returns
returns c = λ d m ts lt. answers_deepen_by_two item_at item_rises d m ts lt
