use Rattle.std.proofs.Common.{rules, ◌≡◌, Err}
use Rattle.vf_base.specs.declared.refusal.RuleFault.TheVariants as faults
use Rattle.vf_phases.proofs.Phases.{by_fixpoints, by_order}
use Rattle.vf_phases.proofs.names.check_names.Goals as goal

pub returns-in_err-check_fixpoints : goal.returns-in_err-check_fixpoints
returns-in_err-check_fixpoints c =
    let e : c.from_residual-in_err-check_fixpoints.result ≡ Err c.in_err-check_fixpoints.field-0.0 = search rules in
    by_fixpoints {s = c.in_ok-scope.scope} {first = c.resolve.result} c.in_err-check_fixpoints.field-0.0 c.in_ok-files.ensures c.resolve.ensures c.in_ok-scope.was c.in_err-check_fixpoints.ensures e

pub returns-in_err-check_order : goal.returns-in_err-check_order
returns-in_err-check_order c =
    let e : c.from_residual-in_err-check_order.result ≡ Err (faults.Refused c.in_err-check_order.field-0.0) = search rules in
    by_order {s = c.in_ok-scope.scope} {first = c.resolve.result} c.in_err-check_order.field-0.0 c.in_ok-files.ensures c.resolve.ensures c.in_ok-scope.was c.in_ok-check_fixpoints.ensures c.in_err-check_order.ensures e
