use Rattle.vf_examples.proofs.NoLeaks.{examples_leak_nothing}
use Rattle.vf_examples.proofs.programs.examples_leak_nothing.Goals as goal

pub returns : goal.returns
returns c = examples_leak_nothing
