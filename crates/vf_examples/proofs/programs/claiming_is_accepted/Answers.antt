use Rattle.vf_examples.proofs.ClaimingMain.{claiming_is_accepted}
use Rattle.vf_examples.proofs.programs.claiming_is_accepted.Goals as goal

pub returns : goal.returns
returns c = claiming_is_accepted
