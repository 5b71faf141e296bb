use Rattle.vf_examples.proofs.EverythingMain.{everything_is_accepted}
use Rattle.vf_examples.proofs.programs.everything_is_accepted.Goals as goal

pub returns : goal.returns
returns c = everything_is_accepted
