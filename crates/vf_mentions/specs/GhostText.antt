-- What annotations in a body mention, in the order of the text, where these locals of C are visible. Names of an annotation's own, as those of its ghost locals, mention what they say like any other name.
use Rattle.std.specs.Prelude.{List, [], ◌∷◌, ◌++◌, Option}
use Rattle.vf_syntax.specs.declared.pattern.Pattern.{Pattern}
use Rattle.vf_syntax.specs.declared.pattern.Pattern.TheVariants as patterns
use Rattle.vf_syntax.specs.GhostExprTree.{GhostExprTree, GhostExprTrees, no_ghost_expr, more_ghost_expr, ghost_expr_list, GhostLinkTree, GhostLinkTrees, no_ghost_link, more_ghost_link}
use Rattle.vf_syntax.specs.GhostExprTree as expr_tree
use Rattle.vf_syntax.specs.AssertionTree.{PartTree, PartTrees, no_part, more_part, part_list, AssertionCaseTree, AssertionCaseTrees, no_assertion_case, more_assertion_case}
use Rattle.vf_syntax.specs.AssertionTree as part_tree
use Rattle.vf_syntax.specs.GhostCommandTree.{GhostCommandTree, GhostCommandTrees, no_ghost_command, more_ghost_command, CommandCaseTree, CommandCaseTrees, no_command_case, more_command_case}
use Rattle.vf_syntax.specs.GhostCommandTree as tree
use Rattle.vf_mentions.specs.declared.mention.Mention.{Mention}
use Rattle.vf_mentions.specs.declared.mention.Mention.TheVariants as mentions
use Rattle.vf_mentions.specs.Mentioned.{Locals, mentioned_name, if_there}

abbrev mutual
  -- what an expression mentions: each name in it that stands as an expression; what stands in front of arguments is none, nor are `result`, `this` and `currentThread`
  pub mentioned_in_ghost_expr : Locals → GhostExprTree → List Mention
  mentioned_in_ghost_expr l (expr_tree.number p a b) = []
  mentioned_in_ghost_expr l (expr_tree.true_ p) = []
  mentioned_in_ghost_expr l (expr_tree.false_ p) = []
  mentioned_in_ghost_expr l (expr_tree.result p) = []
  mentioned_in_ghost_expr l (expr_tree.this_ p) = []
  mentioned_in_ghost_expr l (expr_tree.current_thread p) = []
  mentioned_in_ghost_expr l (expr_tree.name_ p x) = mentioned_name l x
  mentioned_in_ghost_expr l (expr_tree.application p x xs) = mentioned_in_ghost_arguments l xs
  mentioned_in_ghost_expr l (expr_tree.parenthesized p a) = mentioned_in_ghost_expr l a
  mentioned_in_ghost_expr l (expr_tree.conditional p a b c) = mentioned_in_ghost_expr l a ++ (mentioned_in_ghost_expr l b ++ mentioned_in_ghost_expr l c)
  mentioned_in_ghost_expr l (expr_tree.unary p o a) = mentioned_in_ghost_expr l a
  mentioned_in_ghost_expr l (expr_tree.chain p v a xs) = mentioned_in_ghost_expr l a ++ mentioned_in_ghost_links l xs

  -- what arguments mention, one after another
  pub mentioned_in_ghost_arguments : Locals → GhostExprTrees → List Mention
  mentioned_in_ghost_arguments l no_ghost_expr = []
  mentioned_in_ghost_arguments l (more_ghost_expr x xs) = mentioned_in_ghost_expr l x ++ mentioned_in_ghost_arguments l xs

  -- what the operand behind an operator mentions
  pub mentioned_in_ghost_link : Locals → GhostLinkTree → List Mention
  mentioned_in_ghost_link l (expr_tree.ghost_link p o a) = mentioned_in_ghost_expr l a

  -- what the operands behind some operators mention
  pub mentioned_in_ghost_links : Locals → GhostLinkTrees → List Mention
  mentioned_in_ghost_links l no_ghost_link = []
  mentioned_in_ghost_links l (more_ghost_link x xs) = mentioned_in_ghost_link l x ++ mentioned_in_ghost_links l xs

-- what a pattern mentions: its expression, if it is one
abbrev pub mentioned_in_pattern : Locals → Pattern → List Mention
mentioned_in_pattern l (patterns.Is a) = mentioned_in_ghost_expr l a
mentioned_in_pattern l (patterns.Binds p x) = []
mentioned_in_pattern l (patterns.Wild p) = []

-- what some patterns mention, one after another
abbrev pub mentioned_in_patterns : Locals → List Pattern → List Mention
mentioned_in_patterns l [] = []
mentioned_in_patterns l (x ∷ xs) = mentioned_in_pattern l x ++ mentioned_in_patterns l xs

-- what the arguments of a chunk mention, in the first parentheses and in the second, where there are two; its share and its predicate mention nothing
abbrev pub mentioned_in_chunk : Locals → List Pattern → Option (List Pattern) → List Mention
mentioned_in_chunk l xs ys = mentioned_in_patterns l xs ++ if_there (mentioned_in_patterns l) ys

abbrev mutual
  -- what a part of an assertion mentions
  pub mentioned_in_part : Locals → PartTree → List Mention
  mentioned_in_part l (part_tree.conditional p a xs ys) = mentioned_in_ghost_expr l a ++ (mentioned_in_parts l xs ++ mentioned_in_parts l ys)
  mentioned_in_part l (part_tree.switch_ p a xs) = mentioned_in_ghost_expr l a ++ mentioned_in_assertion_cases l xs
  mentioned_in_part l (part_tree.cell p s a f x) = mentioned_in_ghost_expr l a ++ mentioned_in_pattern l x
  mentioned_in_part l (part_tree.chunk p s g xs ys) = mentioned_in_chunk l xs ys
  mentioned_in_part l (part_tree.empty_ p) = []
  mentioned_in_part l (part_tree.pure p a) = mentioned_in_ghost_expr l a
  mentioned_in_part l (part_tree.group p xs) = mentioned_in_parts l xs

  -- what an assertion mentions, part by part
  pub mentioned_in_parts : Locals → PartTrees → List Mention
  mentioned_in_parts l no_part = []
  mentioned_in_parts l (more_part x xs) = mentioned_in_part l x ++ mentioned_in_parts l xs

  -- what a case of a `switch` in an assertion mentions: what stands behind its `:`
  pub mentioned_in_assertion_case : Locals → AssertionCaseTree → List Mention
  mentioned_in_assertion_case l (part_tree.assertion_case p c xs) = mentioned_in_parts l xs

  -- what some cases of a `switch` in an assertion mention, one after another
  pub mentioned_in_assertion_cases : Locals → AssertionCaseTrees → List Mention
  mentioned_in_assertion_cases l no_assertion_case = []
  mentioned_in_assertion_cases l (more_assertion_case x xs) = mentioned_in_assertion_case l x ++ mentioned_in_assertion_cases l xs

abbrev mutual
  -- what a ghost command mentions: of a call the lemma and what the arguments mention, of an assignment and a declaration what the value mentions
  pub mentioned_in_command : Locals → GhostCommandTree → List Mention
  mentioned_in_command l (tree.open_ p s g xs ys) = mentioned_in_chunk l xs ys
  mentioned_in_command l (tree.close_ p s g xs ys) = mentioned_in_chunk l xs ys
  mentioned_in_command l (tree.leak_ p xs) = mentioned_in_parts l (part_list xs)
  mentioned_in_command l (tree.assert_ p xs) = mentioned_in_parts l (part_list xs)
  mentioned_in_command l (tree.declaration p s x a) = mentioned_in_ghost_expr l a
  mentioned_in_command l (tree.assignment p x a) = mentioned_in_ghost_expr l a
  mentioned_in_command l (tree.call_ p g xs) = mentions.Lemma g ∷ mentioned_in_ghost_arguments l (ghost_expr_list xs)
  mentioned_in_command l (tree.if_ p a xs) = mentioned_in_ghost_expr l a ++ mentioned_in_commands l xs
  mentioned_in_command l (tree.if_else p a xs ys) = mentioned_in_ghost_expr l a ++ (mentioned_in_commands l xs ++ mentioned_in_commands l ys)
  mentioned_in_command l (tree.switch_ p a xs) = mentioned_in_ghost_expr l a ++ mentioned_in_command_cases l xs
  mentioned_in_command l (tree.block p xs) = mentioned_in_commands l xs

  -- what some ghost commands mention, one after another
  pub mentioned_in_commands : Locals → GhostCommandTrees → List Mention
  mentioned_in_commands l no_ghost_command = []
  mentioned_in_commands l (more_ghost_command x xs) = mentioned_in_command l x ++ mentioned_in_commands l xs

  -- what a case of a `switch` among ghost commands mentions: what stands behind its `:`
  pub mentioned_in_command_case : Locals → CommandCaseTree → List Mention
  mentioned_in_command_case l (tree.command_case p c xs) = mentioned_in_commands l xs

  -- what some cases of a `switch` among ghost commands mention, one after another
  pub mentioned_in_command_cases : Locals → CommandCaseTrees → List Mention
  mentioned_in_command_cases l no_command_case = []
  mentioned_in_command_cases l (more_command_case x xs) = mentioned_in_command_case l x ++ mentioned_in_command_cases l xs
