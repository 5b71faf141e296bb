-- How ghost commands are spelled, and how deep they nest.
use Rattle.std.specs.Prelude.{ℕ, ◌+◌, max, List, [], ◌∷◌}
use Rattle.vf_lexer.specs.declared.punctuator.Punctuator.TheVariants as punctuators
use Rattle.vf_syntax.specs.declared.keyword.Keyword.TheVariants as keywords
use Rattle.vf_syntax.specs.declared.side.Side.TheVariants.{Ghost}
use Rattle.vf_syntax.specs.GhostExprTree.{ghost_expr_list}
use Rattle.vf_syntax.specs.AssertionTree.{part_list}
use Rattle.vf_syntax.specs.GhostCommandTree.{GhostCommandTree, GhostCommandTrees, CommandCaseTree, CommandCaseTrees, no_ghost_command, more_ghost_command, no_command_case, more_command_case}
use Rattle.vf_syntax.specs.GhostCommandTree as tree
use Rattle.vf_syntax.specs.Walks.{Walk, ◌⨾◌, nothing, at, mark, word, identifier}
use Rattle.vf_syntax.specs.Written.{name}
use Rattle.vf_syntax.specs.Lists.{optional, greatest, or_none}
use Rattle.vf_syntax.specs.GhostExpressions.{sort, sort_nesting, ghost_expr, ghost_arguments, ghost_nesting, ghost_arguments_nesting}
use Rattle.vf_syntax.specs.Assertions.{share, pattern_list, case_pattern, assertion, parts_nesting, pattern_nesting}

abbrev mutual
  -- a ghost command
  pub command : GhostCommandTree → Walk
  command (tree.open_ p s n first second) = at p ⨾ word Ghost keywords.Open ⨾ optional share s ⨾ name Ghost n ⨾ pattern_list first ⨾ optional pattern_list second ⨾ mark Ghost punctuators.Semicolon
  command (tree.close_ p s n first second) = at p ⨾ word Ghost keywords.Close ⨾ optional share s ⨾ name Ghost n ⨾ pattern_list first ⨾ optional pattern_list second ⨾ mark Ghost punctuators.Semicolon
  command (tree.leak_ p a) = at p ⨾ word Ghost keywords.Leak ⨾ assertion (part_list a) ⨾ mark Ghost punctuators.Semicolon
  command (tree.assert_ p a) = at p ⨾ word Ghost keywords.Assert ⨾ assertion (part_list a) ⨾ mark Ghost punctuators.Semicolon
  command (tree.declaration p s n e) = at p ⨾ sort s ⨾ name Ghost n ⨾ mark Ghost punctuators.Becomes ⨾ ghost_expr e ⨾ mark Ghost punctuators.Semicolon
  command (tree.assignment p x e) = at p ⨾ identifier Ghost x ⨾ mark Ghost punctuators.Becomes ⨾ ghost_expr e ⨾ mark Ghost punctuators.Semicolon
  command (tree.call_ p f xs) = at p ⨾ identifier Ghost f ⨾ mark Ghost punctuators.OpenParenthesis ⨾ ghost_arguments (ghost_expr_list xs) ⨾ mark Ghost punctuators.CloseParenthesis ⨾ mark Ghost punctuators.Semicolon
  command (tree.if_ p e xs) = at p ⨾ word Ghost keywords.If ⨾ mark Ghost punctuators.OpenParenthesis ⨾ ghost_expr e ⨾ mark Ghost punctuators.CloseParenthesis
      ⨾ mark Ghost punctuators.OpenBrace ⨾ commands xs ⨾ mark Ghost punctuators.CloseBrace
  command (tree.if_else p e xs ys) = at p ⨾ word Ghost keywords.If ⨾ mark Ghost punctuators.OpenParenthesis ⨾ ghost_expr e ⨾ mark Ghost punctuators.CloseParenthesis
      ⨾ mark Ghost punctuators.OpenBrace ⨾ commands xs ⨾ mark Ghost punctuators.CloseBrace ⨾ word Ghost keywords.Else
      ⨾ mark Ghost punctuators.OpenBrace ⨾ commands ys ⨾ mark Ghost punctuators.CloseBrace
  command (tree.switch_ p e cs) = at p ⨾ word Ghost keywords.Switch ⨾ mark Ghost punctuators.OpenParenthesis ⨾ ghost_expr e ⨾ mark Ghost punctuators.CloseParenthesis
      ⨾ mark Ghost punctuators.OpenBrace ⨾ command_cases cs ⨾ mark Ghost punctuators.CloseBrace
  command (tree.block p xs) = at p ⨾ mark Ghost punctuators.OpenBrace ⨾ commands xs ⨾ mark Ghost punctuators.CloseBrace

  -- commands, one after another
  pub commands : GhostCommandTrees → Walk
  commands no_ghost_command = nothing
  commands (more_ghost_command x xs) = command x ⨾ commands xs

  -- "case" pattern ":" commands
  pub command_case : CommandCaseTree → Walk
  command_case (tree.command_case p c xs) = at p ⨾ word Ghost keywords.Case ⨾ case_pattern c ⨾ mark Ghost punctuators.Colon ⨾ commands xs

  -- cases, one after another
  pub command_cases : CommandCaseTrees → Walk
  command_cases no_command_case = nothing
  command_cases (more_command_case x xs) = command_case x ⨾ command_cases xs

abbrev mutual
  -- how many ghost commands, assertions, sorts, expressions and operators in front of their operand stand in one another at the deepest token, the whole command not counted
  pub command_nesting : GhostCommandTree → ℕ
  command_nesting (tree.open_ p s n first second) = max (greatest pattern_nesting first) (or_none (greatest pattern_nesting) second)
  command_nesting (tree.close_ p s n first second) = max (greatest pattern_nesting first) (or_none (greatest pattern_nesting) second)
  command_nesting (tree.leak_ p a) = parts_nesting (part_list a) + 1
  command_nesting (tree.assert_ p a) = parts_nesting (part_list a) + 1
  command_nesting (tree.declaration p s n e) = max (sort_nesting s + 1) (ghost_nesting e + 1)
  command_nesting (tree.assignment p x e) = ghost_nesting e + 1
  command_nesting (tree.call_ p f xs) = ghost_arguments_nesting (ghost_expr_list xs)
  command_nesting (tree.if_ p e xs) = max (ghost_nesting e + 1) (commands_nesting xs)
  command_nesting (tree.if_else p e xs ys) = max (ghost_nesting e + 1) (max (commands_nesting xs) (commands_nesting ys))
  command_nesting (tree.switch_ p e cs) = max (ghost_nesting e + 1) (command_cases_nesting cs)
  command_nesting (tree.block p xs) = commands_nesting xs

  -- the deepest of some commands, each of which counts one
  pub commands_nesting : GhostCommandTrees → ℕ
  commands_nesting no_ghost_command = 0
  commands_nesting (more_ghost_command x xs) = max (command_nesting x + 1) (commands_nesting xs)

  -- how deep a case nests
  pub command_case_nesting : CommandCaseTree → ℕ
  command_case_nesting (tree.command_case p c xs) = commands_nesting xs

  -- the deepest of some cases
  pub command_cases_nesting : CommandCaseTrees → ℕ
  command_cases_nesting no_command_case = 0
  command_cases_nesting (more_command_case x xs) = max (command_case_nesting x) (command_cases_nesting xs)
