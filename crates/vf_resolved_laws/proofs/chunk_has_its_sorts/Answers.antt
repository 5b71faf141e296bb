use Rattle.vf_resolved_laws.proofs.Chunk.{chunk_has_its_sorts}
use Rattle.vf_resolved_laws.proofs.chunk_has_its_sorts.Goals as goal

pub returns : goal.returns
returns c = chunk_has_its_sorts
