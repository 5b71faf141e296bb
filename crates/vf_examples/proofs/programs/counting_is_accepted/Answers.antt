use Rattle.vf_examples.proofs.Counted.{counting_is_accepted}
use Rattle.vf_examples.proofs.programs.counting_is_accepted.Goals as goal

pub returns : goal.returns
returns c = counting_is_accepted
