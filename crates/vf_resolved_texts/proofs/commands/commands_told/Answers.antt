use Rattle.std.proofs.Common.{rules, ◌≡◌, ◌+◌, ◌≤◌, length, drop, Err, Some, slice_get, sym, subst}
use Rattle.vf_resolving.specs.Standings.{standing_of}
use Rattle.vf_resolved_texts.proofs.Steps.{GoOn, begin, ended, one_more, stopped}
use Rattle.vf_resolved_texts.proofs.commands.commands_told.Goals as goal

pub loop-at-init : goal.loop-at-init
loop-at-init c =
    subst (λ ys. GoOn c.args.around.now c.args.paths.now c.args.commands.now c.args.commands.now (standing_of c.args.standing.now) (standing_of c.args.standing.now) ys) (sym c.new-all.ensures) begin

pub loop-at-preserved : goal.loop-at-preserved
loop-at-preserved c =
    let there : slice_get c.args.commands.now c.loop-at.at ≡ Some c.in-Some.command.now = sym c.in-Some.ensures in
    subst (λ ys. GoOn c.args.around.now c.args.paths.now c.args.commands.now (drop (c.loop-at.at + 1) c.args.commands.now) (standing_of c.args.standing.now) (standing_of c.command_told.new.standing) ys) (sym c.in_ok-push.ensures)
    (one_more c.args.commands.now c.loop-at.at c.in-Some.command.now there c.in_ok-command.ensures c.loop-at.invariant)

pub returns-in_err-command : goal.returns-in_err-command
returns-in_err-command c =
    let e : c.from_residual.result ≡ Err c.in_err-command.field-0.0 = search rules in
    stopped c.args.commands.now c.loop-at.at c.in-Some.command.now _ (sym c.in-Some.ensures) c.in_err-command.ensures c.loop-at.invariant e

pub returns : goal.returns
returns c =
    let m : length c.args.commands.now ≤ c.loop-at.at = search rules in
    ended c.args.commands.now c.loop-at.at m c.loop-at.invariant
