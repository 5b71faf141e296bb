use Rattle.vf_meaning.proofs.Parts.{singles_add}
use Rattle.vf_meaning.proofs.part_laws.singles_add.Goals as goal

pub returns : goal.returns
returns c = singles_add
