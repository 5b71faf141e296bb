use Rattle.vf_examples.proofs.WildArguments.{passing_is_accepted}
use Rattle.vf_examples.proofs.programs.passing_is_accepted.Goals as goal

pub returns : goal.returns
returns c = passing_is_accepted
