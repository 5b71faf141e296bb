use Rattle.std.proofs.Common.{rules, ◌≡◌, Err}
use Rattle.vf_resolved_bodies.proofs.Steps.{command_refused, command_told}
use Rattle.vf_resolved_bodies.proofs.statements.tell_command.Goals as goal

pub returns-in_err-command : goal.returns-in_err-command
returns-in_err-command c =
    let e : c.from_residual.result ≡ Err c.in_err-command.field-0.0 = search rules in
    command_refused _ c.around_statements-around.ensures c.in_err-command.ensures e

pub returns : goal.returns
returns c = command_told c.around_statements-around.ensures c.in_ok-command.ensures c.in_ok-push.ensures.pushed
