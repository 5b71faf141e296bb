use Rattle.vf_examples.proofs.ListValues.{lists_have_values}
use Rattle.vf_examples.proofs.lemmas.lists_have_values.Goals as goal

pub returns : goal.returns
returns c = lists_have_values
