use Rattle.vf_meaning.proofs.Fractions.{halves_make_the_whole}
use Rattle.vf_meaning.proofs.fraction_laws.halves_make_the_whole.Goals as goal

pub returns : goal.returns
returns c = halves_make_the_whole
