use Rattle.std.proofs.Common.{◌≡◌, drop}
use Rattle.vf_normal.specs.Normal.{product_with}
use Rattle.vf_formula.specs.Rows.{row}
use Rattle.vf_formula.specs.Shares.{KeepsProducts}
use Rattle.vf_formula.proofs.share.shared.Given as goal

abbrev pub invariant-loop-i : goal.invariant-loop-i
invariant-loop-i l = record {
  coefficient : l.product.coefficient ≡ (product_with l.fn.fraction (row (drop l.i l.items))).coefficient;
  factors : row l.product.factors ≡ (product_with l.fn.fraction (row (drop l.i l.items))).factors;
  kept : KeepsProducts l.fn.fraction (row (drop l.i l.items));
}
