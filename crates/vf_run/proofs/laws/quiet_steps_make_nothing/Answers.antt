use Rattle.vf_run.proofs.Making.{quiet_steps}
use Rattle.vf_run.proofs.laws.quiet_steps_make_nothing.Goals as goal

pub returns : goal.returns
returns c = quiet_steps
