use Rattle.std.proofs.Common.{◌≡◌, drop}
use Rattle.vf_normal.specs.Normal.{added_up}
use Rattle.vf_normal.specs.NormalForms.{IsNormal}
use Rattle.vf_formula.specs.Rows.{row}
use Rattle.vf_formula.proofs.normal.added_up.Given as goal

abbrev pub invariant-loop-i : goal.invariant-loop-i
invariant-loop-i l = record {
  value : l.sum ≡ added_up (drop l.i l.factors) (row (drop l.i l.parts));
  normal : IsNormal l.sum;
}
