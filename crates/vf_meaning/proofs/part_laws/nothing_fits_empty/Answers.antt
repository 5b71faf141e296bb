use Rattle.vf_meaning.proofs.Parts.{nothing_fits_empty}
use Rattle.vf_meaning.proofs.part_laws.nothing_fits_empty.Goals as goal

pub returns : goal.returns
returns c = nothing_fits_empty
