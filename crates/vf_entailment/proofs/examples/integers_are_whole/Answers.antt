use Rattle.vf_entailment.proofs.Example.{integers_whole}
use Rattle.vf_entailment.proofs.examples.integers_are_whole.Goals as goal

pub returns : goal.returns
returns c = integers_whole
