use Rattle.std.proofs.Common.{rules, ◌≡◌, Err}
use Rattle.vf_commands.proofs.Opens.{open_binds, open_taken_fails}
use Rattle.vf_commands.proofs.opening.open_bound.Goals as goal

pub returns-in_err-taken_bound : goal.returns-in_err-taken_bound
returns-in_err-taken_bound c =
    let e : c.from_residual-in_err-taken_bound.result ≡ Err c.in_err-taken_bound.field-0.0 = search rules in
    open_taken_fails _ c.no_names-bound.ensures c.in_ok-share_bound.ensures c.in_ok-taken.ensures c.in-Some.is c.in_err-taken_bound.ensures e

pub returns : goal.returns
returns c = open_binds c.no_names-bound.ensures c.in_ok-share_bound.ensures c.in_ok-taken.ensures c.in-Some.is c.in_ok-taken_bound.ensures
