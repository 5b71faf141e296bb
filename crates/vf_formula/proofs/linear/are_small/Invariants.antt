use Rattle.std.proofs.Common.{◌≡◌, drop}
use Rattle.vf_normal.specs.Sums.{are_small}
use Rattle.vf_formula.proofs.linear.are_small.Given as goal

abbrev pub invariant-loop-weighted : goal.invariant-loop-weighted
invariant-loop-weighted l = are_small (drop l.weighted-index l.atoms) ≡ are_small l.atoms
