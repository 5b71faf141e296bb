use Rattle.vf_fixpoint_laws.proofs.bodies.Numbers.{numbers_keep_sorts}
use Rattle.vf_fixpoint_laws.proofs.bodies.laws.numbers_keep_sorts.Goals as goal

pub returns : goal.returns
returns c = numbers_keep_sorts
