use Rattle.vf_equality.proofs.Plain.{comparisons_can_be_asked}
use Rattle.vf_equality.proofs.laws.comparisons_can_be_asked.Goals as goal

pub returns : goal.returns
returns c = comparisons_can_be_asked
