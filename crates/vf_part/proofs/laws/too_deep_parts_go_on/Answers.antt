use Rattle.vf_part.proofs.Deep.{too_deep}
use Rattle.vf_part.proofs.laws.too_deep_parts_go_on.Goals as goal

pub returns : goal.returns
returns c = λ result kind end p tokens at le a e. too_deep result kind end p tokens at le a e
