use Rattle.vf_meaning.proofs.Parts.{tells_contents}
use Rattle.vf_meaning.proofs.part_laws.tells_contents.Goals as goal

pub returns : goal.returns
returns c = tells_contents
