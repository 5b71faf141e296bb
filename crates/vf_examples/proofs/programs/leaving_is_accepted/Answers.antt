use Rattle.vf_examples.proofs.Leaving.{leaving_is_accepted}
use Rattle.vf_examples.proofs.programs.leaving_is_accepted.Goals as goal

pub returns : goal.returns
returns c = leaving_is_accepted
