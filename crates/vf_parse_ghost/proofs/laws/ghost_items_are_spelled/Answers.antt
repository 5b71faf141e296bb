use Rattle.vf_parse_ghost.proofs.ItemsRead.{item_sound}
use Rattle.vf_parse_ghost.proofs.laws.ghost_items_are_spelled.Goals as goal

pub returns : goal.returns
returns c = item_sound
