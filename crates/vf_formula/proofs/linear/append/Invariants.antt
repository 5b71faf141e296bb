use Rattle.std.proofs.Common.{◌≡◌, ◌++◌, take}
use Rattle.vf_formula.proofs.linear.append.Given as goal

abbrev pub invariant-loop-weighted : goal.invariant-loop-weighted
invariant-loop-weighted l = l.all.items ≡ l.initial.all.items ++ take l.weighted-index l.atoms
