use Rattle.vf_trail.proofs.Paths.{paths_stay}
use Rattle.vf_trail.proofs.trail.paths_stay.Goals as goal

pub returns : goal.returns
returns g c = paths_stay
