use Rattle.std.proofs.Common.{◌≡◌, ◌+◌, ◌*◌, drop}
use Rattle.vf_syntax.specs.GhostCommandTree.{command_case_list, command_case_nodes, command_case_nodes_all, ghost_command_list, ghost_command_nodes, ghost_command_nodes_all}
use Rattle.vf_resolving.specs.Standings.{around_of, standing_of}
use Rattle.vf_resolved_commands.specs.Commands.{branches_resolved, commands_resolved}
use Rattle.vf_resolved_commands.proofs.Lists.{put_branches, put_commands}
use Rattle.vf_resolved_commands.proofs.commands.+command.Given as goal

abbrev pub decreases-command_resolved : goal.decreases-command_resolved
decreases-command_resolved l = 5 * ghost_command_nodes l.command.now

abbrev pub decreases-inner_resolved : goal.decreases-inner_resolved
decreases-inner_resolved l = 5 * ghost_command_nodes_all (ghost_command_list l.commands.now) + 1

abbrev pub decreases-block_resolved : goal.decreases-block_resolved
decreases-block_resolved l = 5 * ghost_command_nodes_all (ghost_command_list l.commands.now) + 2

abbrev pub decreases-if_resolved : goal.decreases-if_resolved
decreases-if_resolved l = 5 * ghost_command_nodes_all (ghost_command_list l.yes.now) + 2

abbrev pub decreases-choice_resolved : goal.decreases-choice_resolved
decreases-choice_resolved l = 5 * (ghost_command_nodes_all (ghost_command_list l.yes.now) + ghost_command_nodes_all (ghost_command_list l.no.now)) + 2

abbrev pub decreases-switch_resolved : goal.decreases-switch_resolved
decreases-switch_resolved l = 5 * command_case_nodes_all (command_case_list l.cases.now) + 1

abbrev pub decreases-body_resolved : goal.decreases-body_resolved
decreases-body_resolved l = 5 * ghost_command_nodes_all (ghost_command_list l.commands.now) + 1

abbrev pub decreases-branch_resolved : goal.decreases-branch_resolved
decreases-branch_resolved l = 5 * command_case_nodes l.case.now

abbrev pub decreases-branches_resolved : goal.decreases-branches_resolved
decreases-branches_resolved l = 5 * command_case_nodes_all (command_case_list l.cases.now)

-- the branches that were resolved, with those that are left, are all
abbrev pub invariant-branches_resolved-loop-at : goal.invariant-branches_resolved-loop-at
invariant-branches_resolved-loop-at l =
    put_branches l.all (branches_resolved (around_of l.fn.around) l.fn.parameters l.fn.over (standing_of l.standing) (command_case_list (drop l.at l.fn.cases)))
    ≡ branches_resolved (around_of l.fn.around) l.fn.parameters l.fn.over (standing_of l.fn.standing) (command_case_list l.fn.cases)

abbrev pub decreases-commands_resolved : goal.decreases-commands_resolved
decreases-commands_resolved l = 5 * ghost_command_nodes_all (ghost_command_list l.commands.now)

-- the commands that were resolved, with those that are left, are all
abbrev pub invariant-commands_resolved-loop-at : goal.invariant-commands_resolved-loop-at
invariant-commands_resolved-loop-at l =
    put_commands l.all (commands_resolved (around_of l.fn.around) l.fn.parameters (standing_of l.standing) (ghost_command_list (drop l.at l.fn.commands)))
    ≡ commands_resolved (around_of l.fn.around) l.fn.parameters (standing_of l.fn.standing) (ghost_command_list l.fn.commands)
