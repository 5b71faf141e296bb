use Rattle.vf_examples.proofs.SmallLemmas.{lemmas_are_accepted}
use Rattle.vf_examples.proofs.lemmas.lemmas_are_accepted.Goals as goal

pub returns : goal.returns
returns c = lemmas_are_accepted
