use Rattle.vf_lower.proofs.Parts.{did_give}
use Rattle.vf_local_numbers.proofs.first.lower_first_part.Goals as goal

pub returns-in-None : goal.returns-in-None
returns-in-None c = rw c.in-None.is (did_give _ _)
