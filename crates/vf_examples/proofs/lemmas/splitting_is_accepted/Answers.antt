use Rattle.vf_examples.proofs.ArraySplit.{splitting_is_accepted}
use Rattle.vf_examples.proofs.lemmas.splitting_is_accepted.Goals as goal

pub returns : goal.returns
returns c = splitting_is_accepted
