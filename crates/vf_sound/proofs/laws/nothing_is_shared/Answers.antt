use Rattle.vf_sound.proofs.Shares.{nothing_is_shared}
use Rattle.vf_sound.proofs.laws.nothing_is_shared.Goals as goal

pub returns : goal.returns
returns c = nothing_is_shared
