use Rattle.std.proofs.Common.{◌≡◌, ◌++◌, drop}
use Rattle.vf_normal.specs.Sums.{paired}
use Rattle.vf_formula.specs.Rows.{row}
use Rattle.vf_formula.proofs.linear.paired.Given as goal

abbrev pub invariant-loop-i : goal.invariant-loop-i
invariant-loop-i l = l.all.items ++ paired (drop l.i l.factors) (row (drop l.i l.terms)) ≡ paired l.factors (row l.terms)
