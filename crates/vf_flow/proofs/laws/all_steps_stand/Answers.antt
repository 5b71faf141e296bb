use Rattle.vf_flow.proofs.Standing.{all_steps_stand}
use Rattle.vf_flow.proofs.laws.all_steps_stand.Goals as goal

pub returns : goal.returns
returns c = all_steps_stand
