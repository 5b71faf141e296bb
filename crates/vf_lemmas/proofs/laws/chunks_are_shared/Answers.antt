use Rattle.vf_lemmas.proofs.Shares.{chunks_are_shared}
use Rattle.vf_lemmas.proofs.laws.chunks_are_shared.Goals as goal

pub returns : goal.returns
returns c = chunks_are_shared
