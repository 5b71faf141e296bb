use Rattle.std.proofs.Common.{◌≡◌, ◌+◌, drop, Some, slice_get, sym, ap, ◌∙◌}
use Rattle.vf_syntax.specs.GhostCommandTree.{command_case_list, ghost_command_list}
use Rattle.vf_resolving.specs.Standings.{around_of, standing_of}
use Rattle.vf_resolved_commands.specs.Commands.{branches_resolved, commands_resolved}
use Rattle.vf_resolved_commands.proofs.Lists.{more_branches, more_commands, put_branches, put_commands}
use Rattle.vf_resolved_commands.proofs.Wholes.{choice_told, if_told}
use Rattle.vf_resolved_commands.proofs.commands.+command.Goals as goal

pub commands_resolved-loop-at-preserved : goal.commands_resolved-loop-at-preserved
commands_resolved-loop-at-preserved t c =
    let a = around_of c.args.around.now in
    let ps = c.args.parameters.now in
    let xs = c.args.commands.now in
    let i = c.loop-at.at in
    let there : slice_get xs i ≡ Some c.in-Some.command.now = sym c.in-Some.ensures in
    ap (λ ys. put_commands ys (commands_resolved a ps (standing_of c.command_resolved.new.standing) (ghost_command_list (drop (i + 1) xs)))) c.in_ok-push.ensures
    ∙ more_commands a ps (standing_of c.loop-at.standing) (standing_of c.command_resolved.new.standing) xs i c.in-Some.command.now c.loop-at.all c.in_ok-command.command _ there c.in_ok-command.ensures c.loop-at.invariant

pub branches_resolved-loop-at-preserved : goal.branches_resolved-loop-at-preserved
branches_resolved-loop-at-preserved t c =
    let a = around_of c.args.around.now in
    let ps = c.args.parameters.now in
    let w = c.args.over in
    let xs = c.args.cases.now in
    let i = c.loop-at.at in
    let there : slice_get xs i ≡ Some c.in-Some.case.now = sym c.in-Some.ensures in
    ap (λ ys. put_branches ys (branches_resolved a ps w (standing_of c.branch_resolved.new.standing) (command_case_list (drop (i + 1) xs)))) c.in_ok-push.ensures
    ∙ more_branches a ps w (standing_of c.loop-at.standing) (standing_of c.branch_resolved.new.standing) xs i c.in-Some.case.now c.loop-at.all c.in_ok-branch.branch _ there c.in_ok-branch.ensures c.loop-at.invariant

pub if_resolved-returns : goal.if_resolved-returns
if_resolved-returns t c =
    if_told (around_of c.args.around.now) c.args.parameters.now (standing_of c.args.standing.now) (standing_of c.inner_resolved.new.standing)
    c.args.place c.args.test.now (ghost_command_list c.args.yes.now) c.in_ok-test.test c.in_ok-yes.yes c.new.result c.in_ok-test.ensures c.in_ok-yes.ensures c.new.ensures

pub choice_resolved-returns : goal.choice_resolved-returns
choice_resolved-returns t c =
    choice_told (around_of c.args.around.now) c.args.parameters.now (standing_of c.args.standing.now) (standing_of c.inner_resolved.new.standing) (standing_of c.inner_resolved-2.new.standing)
    c.args.place c.args.test.now (ghost_command_list c.args.yes.now) (ghost_command_list c.args.no.now) c.in_ok-test.test c.in_ok-yes.yes c.in_ok-no.no c.in_ok-test.ensures c.in_ok-yes.ensures c.in_ok-no.ensures
