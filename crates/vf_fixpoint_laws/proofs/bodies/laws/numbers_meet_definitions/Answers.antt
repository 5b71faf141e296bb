use Rattle.vf_fixpoint_laws.proofs.bodies.Numbers.{numbers_meet_definitions}
use Rattle.vf_fixpoint_laws.proofs.bodies.laws.numbers_meet_definitions.Goals as goal

pub returns : goal.returns
returns c = numbers_meet_definitions
