use Rattle.vf_meaning.proofs.Parts.{singles_have_just_that}
use Rattle.vf_meaning.proofs.part_laws.singles_have_just_that.Goals as goal

pub returns : goal.returns
returns c = singles_have_just_that
