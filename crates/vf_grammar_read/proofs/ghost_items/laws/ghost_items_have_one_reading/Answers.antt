use Rattle.vf_grammar_read.proofs.ghost_items.ItemsFull.{one_item}
use Rattle.vf_grammar_read.proofs.ghost_items.laws.ghost_items_have_one_reading.Goals as goal

pub returns : goal.returns
returns c = one_item
