use Rattle.std.proofs.Common.{◌≡◌, map, take}
use Rattle.vf_formula.proofs.linear.terms.Given as goal

abbrev pub invariant-loop-weighted : goal.invariant-loop-weighted
invariant-loop-weighted l = l.all ≡ map (λ w. w.atom) (take l.weighted-index l.atoms)
