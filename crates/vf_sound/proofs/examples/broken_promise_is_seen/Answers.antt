use Rattle.vf_sound.proofs.Worked.{broken_promise_is_seen}
use Rattle.vf_sound.proofs.examples.broken_promise_is_seen.Goals as goal

pub returns : goal.returns
returns c = broken_promise_is_seen
