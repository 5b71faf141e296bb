use Rattle.vf_examples.proofs.ArrayElements.{elements_are_accepted}
use Rattle.vf_examples.proofs.programs.elements_are_accepted.Goals as goal

pub returns : goal.returns
returns c = elements_are_accepted
