use Rattle.std.proofs.Common.{◌≡◌, ◌++◌, drop}
use Rattle.vf_normal.specs.Comparisons.{below}
use Rattle.vf_formula.proofs.comparison.below.Given as goal

abbrev pub invariant-loop-weighted : goal.invariant-loop-weighted
invariant-loop-weighted l = l.all.items ++ below (drop l.weighted-index l.atoms) ≡ below l.atoms
