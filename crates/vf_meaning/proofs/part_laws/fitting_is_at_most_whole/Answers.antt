use Rattle.vf_meaning.proofs.Parts.{fitting_is_at_most_whole}
use Rattle.vf_meaning.proofs.part_laws.fitting_is_at_most_whole.Goals as goal

pub returns : goal.returns
returns c = fitting_is_at_most_whole
