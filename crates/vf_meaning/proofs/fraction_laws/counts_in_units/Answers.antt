use Rattle.vf_meaning.proofs.Fractions.{counts_in_units}
use Rattle.vf_meaning.proofs.fraction_laws.counts_in_units.Goals as goal

pub returns : goal.returns
returns c = counts_in_units
