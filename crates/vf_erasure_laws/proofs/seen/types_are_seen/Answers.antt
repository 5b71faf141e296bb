use Rattle.vf_erasure_laws.proofs.seen.Laws.{types_are_seen}
use Rattle.vf_erasure_laws.proofs.seen.types_are_seen.Goals as goal

pub returns : goal.returns
returns c = types_are_seen
