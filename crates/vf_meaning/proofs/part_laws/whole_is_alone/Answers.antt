use Rattle.vf_meaning.proofs.Parts.{whole_is_alone}
use Rattle.vf_meaning.proofs.part_laws.whole_is_alone.Goals as goal

pub returns : goal.returns
returns c = whole_is_alone
