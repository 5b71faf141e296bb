use Rattle.vf_asking.proofs.Determined.{determined}
use Rattle.vf_asking.proofs.laws.courses_are_determined.Goals as goal

pub returns : goal.returns
returns g c = determined
