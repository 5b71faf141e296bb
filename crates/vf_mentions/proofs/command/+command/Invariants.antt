use Rattle.std.proofs.Common.{◌≡◌, ◌++◌, drop}
use Rattle.vf_syntax.specs.GhostCommandTree.{ghost_command_nodes, ghost_command_nodes_all, ghost_command_list, command_case_nodes, command_case_nodes_all, command_case_list}
use Rattle.vf_mentions.specs.GhostText.{mentioned_in_commands, mentioned_in_command_cases}
use Rattle.vf_mentions.proofs.command.+command.Given as goal

abbrev pub decreases-find_in_command : goal.decreases-find_in_command
decreases-find_in_command l = ghost_command_nodes l.command.now

abbrev pub decreases-find_in_commands : goal.decreases-find_in_commands
decreases-find_in_commands l = ghost_command_nodes_all (ghost_command_list l.commands.now)

-- what was found and what the commands mention that are left
abbrev pub invariant-find_in_commands-loop-at : goal.invariant-find_in_commands-loop-at
invariant-find_in_commands-loop-at l = l.found ++ mentioned_in_commands l.fn.locals (ghost_command_list (drop l.at l.fn.commands)) ≡ l.initial.found ++ mentioned_in_commands l.fn.locals (ghost_command_list l.fn.commands)

abbrev pub decreases-find_in_command_case : goal.decreases-find_in_command_case
decreases-find_in_command_case l = command_case_nodes l.case.now

abbrev pub decreases-find_in_command_cases : goal.decreases-find_in_command_cases
decreases-find_in_command_cases l = command_case_nodes_all (command_case_list l.cases.now)

-- the same of cases
abbrev pub invariant-find_in_command_cases-loop-at : goal.invariant-find_in_command_cases-loop-at
invariant-find_in_command_cases-loop-at l = l.found ++ mentioned_in_command_cases l.fn.locals (command_case_list (drop l.at l.fn.cases)) ≡ l.initial.found ++ mentioned_in_command_cases l.fn.locals (command_case_list l.fn.cases)
