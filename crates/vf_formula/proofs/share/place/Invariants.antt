use Rattle.std.proofs.Common.{◌≡◌, take, drop}
use Rattle.vf_normal.specs.Normal.{with_factor}
use Rattle.vf_formula.specs.Rows.{row}
use Rattle.vf_formula.proofs.Parts.{ahead}
use Rattle.vf_formula.proofs.share.place.Given as goal

abbrev pub invariant-loop-i : goal.invariant-loop-i
invariant-loop-i l = ahead (take l.i l.factors) (with_factor l.item (row (drop l.i l.factors))) ≡ with_factor l.item (row l.factors)
