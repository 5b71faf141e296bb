use Rattle.vf_part.proofs.Taken.{answered}
use Rattle.vf_part.proofs.laws.spelled_parts_are_answered.Goals as goal

pub returns : goal.returns
returns c = λ result end tokens at x rest le a h deep ends. answered result end tokens at x rest le a h deep ends
