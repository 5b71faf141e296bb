use Rattle.std.proofs.Common.{◌≡◌, ◌++◌, drop}
use Rattle.vf_normal.specs.Sums.{times_each}
use Rattle.vf_formula.proofs.linear.times_each.Given as goal

abbrev pub invariant-loop-weighted : goal.invariant-loop-weighted
invariant-loop-weighted l = l.all.items ++ times_each l.fn.number (drop l.weighted-index l.fn.atoms) ≡ times_each l.fn.number l.fn.atoms
