use Rattle.vf_examples.proofs.Nested.{nesting_is_accepted}
use Rattle.vf_examples.proofs.lemmas.nesting_is_accepted.Goals as goal

pub returns : goal.returns
returns c = nesting_is_accepted
