use Rattle.vf_fixpoint_laws.proofs.bodies.Numbers.{numbers_keep_values}
use Rattle.vf_fixpoint_laws.proofs.bodies.laws.numbers_keep_values.Goals as goal

pub returns : goal.returns
returns c = numbers_keep_values
