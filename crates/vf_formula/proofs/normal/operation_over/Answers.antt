use Rattle.std.proofs.Common.{sym, ap₂}
use Rattle.vf_core.specs.Shown.{operator_of}
use Rattle.vf_normal.specs.Sums.{calculated}
use Rattle.vf_formula.proofs.Parts.{ok_as}
use Rattle.vf_formula.proofs.normal.operation_over.Goals as goal

pub returns : goal.returns
returns c =
    let op = operator_of c.args.operator in
    ok_as c.calculated.result (calculated op c.in_ok-left.left c.in_ok-right.right) _ c.calculated.ensures.value
    (ap₂ (calculated op) (sym c.in_ok-left.ensures.value) (sym c.in_ok-right.ensures.value))
