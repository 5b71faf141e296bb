use Rattle.vf_entailment.proofs.Values.{whole_numbers_stay}
use Rattle.vf_entailment.proofs.laws.whole_numbers_stay.Goals as goal

pub returns : goal.returns
returns c = whole_numbers_stay
