use Rattle.std.proofs.Common.{◌≡◌, ◌<◌, ◌-◌}
use Rattle.vf_meaning.specs.Fractions.{reduced}
use Rattle.vf_fractions.proofs.dyadic.lowered.Given as goal

abbrev pub invariant-loop-halvings : goal.invariant-loop-halvings
invariant-loop-halvings l = record {
  value : reduced l.odd (l.exponent - l.halvings) ≡ reduced l.numerator l.exponent;
  above : 0 < l.numerator → 0 < l.odd;
}
