use Rattle.vf_meaning.proofs.Parts.{nothing_is_neutral}
use Rattle.vf_meaning.proofs.part_laws.nothing_is_neutral.Goals as goal

pub returns : goal.returns
returns c = nothing_is_neutral
