use Rattle.vf_examples.proofs.Boxed.{box_is_accepted}
use Rattle.vf_examples.proofs.programs.box_is_accepted.Goals as goal

pub returns : goal.returns
returns c = box_is_accepted
