use Rattle.std.proofs.Common.{refl, sym}
use Rattle.vf_syntax.specs.GhostCommandTree.{ghost_command_list, command_case_list}
use Rattle.vf_mentions.specs.GhostText.{mentioned_in_command, mentioned_in_command_case, mentioned_in_command_cases, mentioned_in_commands}
use Rattle.vf_mentions.proofs.Loops.{one_more}
use Rattle.vf_mentions.proofs.command.+command.Goals as goal

pub find_in_commands-loop-at-preserved : goal.find_in_commands-loop-at-preserved
find_in_commands-loop-at-preserved t c = one_more (mentioned_in_command c.args.locals.now) (λ xs. mentioned_in_commands c.args.locals.now (ghost_command_list xs)) (λ x xs. refl) c.args.commands.now c.loop-at.at _ _ _ _ (sym c.in-Some.ensures) c.in_ok-find_in_command.ensures c.loop-at.invariant

pub find_in_command_cases-loop-at-preserved : goal.find_in_command_cases-loop-at-preserved
find_in_command_cases-loop-at-preserved t c = one_more (mentioned_in_command_case c.args.locals.now) (λ xs. mentioned_in_command_cases c.args.locals.now (command_case_list xs)) (λ x xs. refl) c.args.cases.now c.loop-at.at _ _ _ _ (sym c.in-Some.ensures) c.in_ok-find_in_command_case.ensures c.loop-at.invariant
