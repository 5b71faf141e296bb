use Rattle.std.proofs.Common.{◌≡◌, ◌++◌, drop}
use Rattle.vf_normal.specs.Comparisons.{above}
use Rattle.vf_formula.proofs.comparison.above.Given as goal

abbrev pub invariant-loop-weighted : goal.invariant-loop-weighted
invariant-loop-weighted l = l.all.items ++ above (drop l.weighted-index l.atoms) ≡ above l.atoms
