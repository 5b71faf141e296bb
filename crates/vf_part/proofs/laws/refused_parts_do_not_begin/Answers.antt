use Rattle.vf_part.proofs.Refused.{refused}
use Rattle.vf_part.proofs.laws.refused_parts_do_not_begin.Goals as goal

pub returns : goal.returns
returns c = λ result kind end p tokens at le a e. refused result kind end p tokens at le a e
