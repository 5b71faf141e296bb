use Rattle.vf_asking.proofs.Determined.{right_determined}
use Rattle.vf_asking.proofs.laws.right_courses_are_determined.Goals as goal

pub returns : goal.returns
returns g c = right_determined
