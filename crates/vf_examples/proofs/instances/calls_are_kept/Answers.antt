use Rattle.vf_examples.proofs.KeptCalls.{calls_are_kept}
use Rattle.vf_examples.proofs.instances.calls_are_kept.Goals as goal

pub returns : goal.returns
returns c = calls_are_kept
