use Rattle.vf_part.proofs.Refused.{supported}
use Rattle.vf_part.proofs.laws.parts_are_supported.Goals as goal

pub returns : goal.returns
returns c = λ result kind end p tokens at a e. supported result kind end p tokens at a e
