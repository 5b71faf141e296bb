use Rattle.vf_fractions.proofs.Lowest.{half_is}
use Rattle.vf_fractions.proofs.dyadic.Dyadic.half.Goals as goal

pub returns : goal.returns
returns c = half_is _ _ _ _ c.numerator-numerator.ensures.value c.exponent-exponent.ensures.value c.kept.ensures
