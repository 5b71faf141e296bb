use Rattle.std.proofs.Common.{rules, ◌≡◌, Err}
use Rattle.vf_resolved_texts.proofs.Steps.{command_fails, command_known}
use Rattle.vf_resolved_texts.proofs.commands.command_known.Goals as goal

pub returns-in_err-given : goal.returns-in_err-given
returns-in_err-given c =
    let e : c.from_residual.result ≡ Err c.in_err-given.field-0.0 = search rules in
    command_fails _ c.new-unknowns.ensures c.in_err-given.ensures e

pub returns : goal.returns
returns c = command_known c.len-count.ensures c.new-unknowns.ensures c.in_ok-given.ensures c.leave.ensures
