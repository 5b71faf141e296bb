use Rattle.vf_examples.proofs.Halved.{halving_is_accepted}
use Rattle.vf_examples.proofs.lemmas.halving_is_accepted.Goals as goal

pub returns : goal.returns
returns c = halving_is_accepted
