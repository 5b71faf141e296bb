use Rattle.std.proofs.Common.{◌+◌, ◌*◌, drop, Result}
use Rattle.vf_base.specs.declared.refusal.RuleFault.{RuleFault}
use Rattle.vf_sorts.specs.Unknowns.{Known}
use Rattle.vf_declared.specs.declared.scope.Scope.{Scope}
use Rattle.vf_syntax.specs.GhostCommandTree.{command_case_list, command_case_nodes, command_case_nodes_all, ghost_command_list, ghost_command_nodes, ghost_command_nodes_all}
use Rattle.vf_commands.specs.Answers.{AreCases, AreCommands}
use Rattle.vf_commands.proofs.commands.+command.Given as goal

abbrev pub decreases-given : goal.decreases-given
decreases-given l = 4 * ghost_command_nodes l.command.now

abbrev pub decreases-enclosed : goal.decreases-enclosed
decreases-enclosed l = 4 * ghost_command_nodes_all (ghost_command_list l.commands.now) + 2

abbrev pub decreases-tested : goal.decreases-tested
decreases-tested l = 4 * ghost_command_nodes_all (ghost_command_list l.yes.now) + 2

abbrev pub decreases-chosen : goal.decreases-chosen
decreases-chosen l = 4 * (ghost_command_nodes_all (ghost_command_list l.yes.now) + ghost_command_nodes_all (ghost_command_list l.no.now)) + 2

abbrev pub decreases-block_given : goal.decreases-block_given
decreases-block_given l = 4 * ghost_command_nodes_all (ghost_command_list l.commands.now) + 1

abbrev pub decreases-switch_given : goal.decreases-switch_given
decreases-switch_given l = 4 * command_case_nodes_all (command_case_list l.cases.now) + 1

abbrev pub decreases-body_given : goal.decreases-body_given
decreases-body_given l = 4 * ghost_command_nodes_all (ghost_command_list l.commands.now) + 1

abbrev pub decreases-case_given : goal.decreases-case_given
decreases-case_given l = 4 * command_case_nodes l.case.now

abbrev pub decreases-cases_given : goal.decreases-cases_given
decreases-cases_given l = 4 * command_case_nodes_all (command_case_list l.cases.now)

-- what is answered for the cases that are left is the answer for all
abbrev pub invariant-cases_given-loop-at : goal.invariant-cases_given-loop-at
invariant-cases_given-loop-at l = (r : Result (Unit {0}) RuleFault) (s : Scope) (k : Known) → AreCases l.fn.around l.scope l.fn.first l.fn.count l.unknowns (command_case_list (drop l.at l.fn.cases)) r s k → AreCases l.fn.around l.fn.scope l.fn.first l.fn.count l.fn.unknowns (command_case_list l.fn.cases) r s k

abbrev pub decreases-all_given : goal.decreases-all_given
decreases-all_given l = 4 * ghost_command_nodes_all (ghost_command_list l.commands.now)

-- what is answered for the commands that are left is the answer for all
abbrev pub invariant-all_given-loop-at : goal.invariant-all_given-loop-at
invariant-all_given-loop-at l = (r : Result (Unit {0}) RuleFault) (s : Scope) (k : Known) → AreCommands l.fn.around l.scope l.unknowns (ghost_command_list (drop l.at l.fn.commands)) r s k → AreCommands l.fn.around l.fn.scope l.fn.unknowns (ghost_command_list l.fn.commands) r s k
