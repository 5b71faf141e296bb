use Rattle.std.proofs.Common.{rules, ◌≡◌, Err}
use Rattle.vf_commands.proofs.Locals.{target_fails}
use Rattle.vf_commands.proofs.assignments.assignment_checked.Goals as goal

pub returns-in_err-sort : goal.returns-in_err-sort
returns-in_err-sort c =
    let e : c.from_residual.result ≡ Err c.in_err-sort.field-0.0 = search rules in
    target_fails _ c.in_err-sort.ensures e
