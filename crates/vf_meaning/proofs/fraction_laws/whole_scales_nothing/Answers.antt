use Rattle.vf_meaning.proofs.Fractions.{whole_scales_nothing}
use Rattle.vf_meaning.proofs.fraction_laws.whole_scales_nothing.Goals as goal

pub returns : goal.returns
returns c = whole_scales_nothing
