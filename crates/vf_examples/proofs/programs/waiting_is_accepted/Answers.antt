use Rattle.vf_examples.proofs.WildInformation.{waiting_is_accepted}
use Rattle.vf_examples.proofs.programs.waiting_is_accepted.Goals as goal

pub returns : goal.returns
returns c = waiting_is_accepted
