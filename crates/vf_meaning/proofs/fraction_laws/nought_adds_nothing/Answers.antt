use Rattle.vf_meaning.proofs.Fractions.{nought_adds_nothing}
use Rattle.vf_meaning.proofs.fraction_laws.nought_adds_nothing.Goals as goal

pub returns : goal.returns
returns c = nought_adds_nothing
