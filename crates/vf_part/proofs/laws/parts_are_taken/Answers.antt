use Rattle.vf_part.proofs.Taken.{taken}
use Rattle.vf_part.proofs.laws.parts_are_taken.Goals as goal

pub returns : goal.returns
returns c = λ result kind end tokens at x next le a e. taken result kind end tokens at x next le a e
