use Rattle.vf_parse_item.proofs.Sound.{item_sound}
use Rattle.vf_parse_item.proofs.laws.items_are_spelled.Goals as goal

pub returns : goal.returns
returns z = λ g c i k l x hc hi hk hl hx d ts a rest e. item_sound g c i k l x hc hi hk hl hx d ts a rest e
