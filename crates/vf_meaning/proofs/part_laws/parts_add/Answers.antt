use Rattle.vf_meaning.proofs.Parts.{parts_add}
use Rattle.vf_meaning.proofs.part_laws.parts_add.Goals as goal

pub returns : goal.returns
returns c = parts_add
