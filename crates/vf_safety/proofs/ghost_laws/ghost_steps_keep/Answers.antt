use Rattle.vf_safety.proofs.GhostSteps.{ghost_steps_keep}
use Rattle.vf_safety.proofs.ghost_laws.ghost_steps_keep.Goals as goal

pub returns : goal.returns
returns c = ghost_steps_keep
