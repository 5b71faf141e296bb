use Rattle.vf_trail.proofs.Paths.{paths_step}
use Rattle.vf_trail.proofs.trail.paths_step.Goals as goal

pub returns : goal.returns
returns g c = paths_step
