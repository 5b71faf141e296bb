use Rattle.std.proofs.Common.{◌≡◌, map, take}
use Rattle.vf_formula.proofs.linear.factors.Given as goal

abbrev pub invariant-loop-weighted : goal.invariant-loop-weighted
invariant-loop-weighted l = l.all ≡ map (λ w. w.factor) (take l.weighted-index l.atoms)
