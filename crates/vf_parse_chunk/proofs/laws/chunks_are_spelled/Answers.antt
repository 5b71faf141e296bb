use Rattle.vf_parse_chunk.proofs.ChunksRead.{begun_sound, ended_sound}
use Rattle.vf_parse_chunk.proofs.laws.chunks_are_spelled.Goals as goal

pub returns-clause-begun : goal.returns-clause-begun
returns-clause-begun c = begun_sound

pub returns-clause-ended : goal.returns-clause-ended
returns-clause-ended c = ended_sound
