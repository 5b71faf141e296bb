use Rattle.std.proofs.Common.{rules, ◌≡◌, Err}
use Rattle.vf_commands.proofs.Calling.{call_passes, callee_fails}
use Rattle.vf_commands.proofs.calls.call_checked.Goals as goal

pub returns-in_err-callee : goal.returns-in_err-callee
returns-in_err-callee c =
    let e : c.from_residual-in_err-callee.result ≡ Err c.in_err-callee.field-0.0 = search rules in
    callee_fails _ c.in_ok-names_predicate.ensures c.if-branch.false c.in_err-callee.ensures e

pub returns : goal.returns
returns c = call_passes c.in_ok-names_predicate.ensures c.if-branch.false c.in_ok-callee.ensures c.has_all.ensures c.if-not-has_all.false c.in_ok-first.ensures.first c.in_ok-first.ensures.added c.in_ok-arguments_passed.ensures
