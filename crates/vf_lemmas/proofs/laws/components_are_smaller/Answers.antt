use Rattle.vf_lemmas.proofs.Calls.{components_are_smaller}
use Rattle.vf_lemmas.proofs.laws.components_are_smaller.Goals as goal

pub returns : goal.returns
returns c = components_are_smaller
