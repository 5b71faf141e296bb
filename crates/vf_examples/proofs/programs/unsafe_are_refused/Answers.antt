use Rattle.vf_examples.proofs.Unsafe.{unsafe_are_refused}
use Rattle.vf_examples.proofs.programs.unsafe_are_refused.Goals as goal

pub returns : goal.returns
returns c = unsafe_are_refused
