use Rattle.vf_take.proofs.Shown.{shown}
use Rattle.vf_take.proofs.laws.takes_in_examples.Goals as goal

pub returns : goal.returns
returns c = shown
