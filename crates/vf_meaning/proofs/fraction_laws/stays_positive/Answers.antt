use Rattle.vf_meaning.proofs.Fractions.{stays_positive}
use Rattle.vf_meaning.proofs.fraction_laws.stays_positive.Goals as goal

pub returns : goal.returns
returns c = stays_positive
