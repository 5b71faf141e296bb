use Rattle.vf_meaning.proofs.Parts.{tells_locations}
use Rattle.vf_meaning.proofs.part_laws.tells_locations.Goals as goal

pub returns : goal.returns
returns c = tells_locations
