use Rattle.vf_safety.proofs.AllSafe.{accepted_calls_are_safe}
use Rattle.vf_safety.proofs.laws.accepted_calls_are_safe.Goals as goal

pub returns : goal.returns
returns c = accepted_calls_are_safe
