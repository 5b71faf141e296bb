use Rattle.std.proofs.Common.{◌≡◌, drop}
use Rattle.vf_normal.specs.Normal.{with_factors}
use Rattle.vf_formula.specs.Rows.{row}
use Rattle.vf_formula.proofs.share.put_factors.Given as goal

abbrev pub invariant-loop-i : goal.invariant-loop-i
invariant-loop-i l = row l.factors ≡ with_factors (row (drop l.i l.items)) (row l.initial.factors)
