use Rattle.vf_grammar_read.proofs.ghost_items.ItemsFull.{item_full}
use Rattle.vf_grammar_read.proofs.ghost_items.laws.ghost_items_are_read.Goals as goal

pub returns : goal.returns
returns c = item_full
