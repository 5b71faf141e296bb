use Rattle.std.proofs.Common.{arith}
use Rattle.vf_fractions.proofs.Lowest.{none_left}
use Rattle.vf_fractions.proofs.dyadic.Dyadic.minus.Goals as goal

pub returns-then-first-second : goal.returns-then-first-second
returns-then-first-second c = none_left _ _ _ _ _ _ _ _ c.numerator.ensures.value c.exponent.ensures.value c.numerator-2.ensures.value c.exponent-2.ensures.value c.finer-first.ensures.value c.finer-second.ensures.value (omega arith)
