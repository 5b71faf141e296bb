use Rattle.std.proofs.Common.{sym}
use Rattle.std.proofs.lemmas.Result.{err_from_is_err_and}
use Rattle.vf_machine.proofs.Sums.{sum_fails, sum_stops}
use Rattle.vf_machine.proofs.sum.sum_value.Goals as goal

pub returns-in_err-value : goal.returns-in_err-value
returns-in_err-value c =
    let p = err_from_is_err_and c.from_residual.result c.from_residual.ensures.1 in
    rw (p.1, p.2) (sym (sum_fails _ _ c.args.sum.now.rest _ _ (sym c.in_err-value.ensures)))

pub returns-in_err-value-2 : goal.returns-in_err-value-2
returns-in_err-value-2 c =
    let p = err_from_is_err_and c.from_residual-in_err-value-2.result c.from_residual-in_err-value-2.ensures.1 in
    rw (p.1, p.2, ← c.as_slice-link-items.ensures) (sum_stops _ _ c.as_slice-link-items.result.now c.loop-link.link-index _ _ _ c.loop-link-test.true tt c.loop-link.invariant c.in_err-value-2.ensures)
