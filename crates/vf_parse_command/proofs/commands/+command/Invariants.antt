use Rattle.std.proofs.Common.{◌≡◌, [], ◌+◌, ◌-◌, ◌*◌}
use Rattle.vf_syntax.specs.declared.keyword.Keyword.TheVariants.{Case}
use Rattle.vf_syntax.specs.declared.side.Side.TheVariants.{Ghost}
use Rattle.vf_syntax.specs.Walks.{is_word}
use Rattle.vf_cursor.specs.Parsing.{many_at}
use Rattle.vf_parse_command.specs.Commands.{is_inside, command_step, commands_at, case_step, cases_at, command_at}
use Rattle.vf_parse_command.proofs.commands.+command.Given as goal

abbrev pub decreases-command : goal.decreases-command
decreases-command l = 10 * l.depth

abbrev pub decreases-if_command : goal.decreases-if_command
decreases-if_command l = 10 * l.depth + 8

abbrev pub decreases-branches : goal.decreases-branches
decreases-branches l = 10 * l.depth + 7

abbrev pub decreases-switch : goal.decreases-switch
decreases-switch l = 10 * l.depth + 8

abbrev pub decreases-cases : goal.decreases-cases
decreases-cases l = 10 * l.depth + 7

abbrev pub decreases-one_more_case : goal.decreases-one_more_case
decreases-one_more_case l = 10 * l.depth + 6

abbrev pub decreases-body : goal.decreases-body
decreases-body l = 10 * l.depth + 5

abbrev pub decreases-commands : goal.decreases-commands
decreases-commands l = 10 * l.depth + 4

abbrev pub decreases-one_more_command : goal.decreases-one_more_command
decreases-one_more_command l = 10 * l.depth + 3

abbrev pub invariant-cases-loop-i : goal.invariant-cases-loop-i
invariant-cases-loop-i l = many_at (l.most - l.i) (is_word Ghost Case) (case_step (command_at l.depth)) l.cases l.cursor.left.now ≡ cases_at (command_at l.depth) l.fn.cursor.left.now

abbrev pub invariant-commands-loop-i : goal.invariant-commands-loop-i
invariant-commands-loop-i l = many_at (l.most - l.i) is_inside (command_step (command_at l.depth)) l.commands l.cursor.left.now ≡ commands_at (command_at l.depth) l.fn.cursor.left.now
