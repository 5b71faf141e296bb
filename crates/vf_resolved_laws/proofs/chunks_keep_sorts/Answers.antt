use Rattle.vf_resolved_laws.proofs.Chunks.{chunks_keep_sorts}
use Rattle.vf_resolved_laws.proofs.chunks_keep_sorts.Goals as goal

pub returns : goal.returns
returns c = chunks_keep_sorts
