use Rattle.std.proofs.Common.{◌≡◌, ◌++◌, drop}
use Rattle.vf_syntax.specs.ExprTree.{expr_nodes, expr_nodes_all, expr_list, link_nodes, link_nodes_all, link_list, postfix_nodes, postfix_nodes_all, postfix_list}
use Rattle.vf_mentions.specs.RealText.{mentioned_in_arguments, mentioned_in_links, mentioned_in_postfixes}
use Rattle.vf_mentions.proofs.expr.+expr.Given as goal

abbrev pub decreases-find_in_expr : goal.decreases-find_in_expr
decreases-find_in_expr l = expr_nodes l.expr.now

abbrev pub decreases-find_in_arguments : goal.decreases-find_in_arguments
decreases-find_in_arguments l = expr_nodes_all (expr_list l.arguments.now)

-- what was found and what the arguments mention that are left
abbrev pub invariant-find_in_arguments-loop-at : goal.invariant-find_in_arguments-loop-at
invariant-find_in_arguments-loop-at l = l.found ++ mentioned_in_arguments l.fn.locals (expr_list (drop l.at l.fn.arguments)) ≡ l.initial.found ++ mentioned_in_arguments l.fn.locals (expr_list l.fn.arguments)

abbrev pub decreases-find_in_link : goal.decreases-find_in_link
decreases-find_in_link l = link_nodes l.link.now

abbrev pub decreases-find_in_links : goal.decreases-find_in_links
decreases-find_in_links l = link_nodes_all (link_list l.links.now)

-- the same of operands
abbrev pub invariant-find_in_links-loop-at : goal.invariant-find_in_links-loop-at
invariant-find_in_links-loop-at l = l.found ++ mentioned_in_links l.fn.locals (link_list (drop l.at l.fn.links)) ≡ l.initial.found ++ mentioned_in_links l.fn.locals (link_list l.fn.links)

abbrev pub decreases-find_in_postfix : goal.decreases-find_in_postfix
decreases-find_in_postfix l = postfix_nodes l.part.now

abbrev pub decreases-find_in_postfixes : goal.decreases-find_in_postfixes
decreases-find_in_postfixes l = postfix_nodes_all (postfix_list l.parts.now)

-- the same of what stands behind an operand
abbrev pub invariant-find_in_postfixes-loop-at : goal.invariant-find_in_postfixes-loop-at
invariant-find_in_postfixes-loop-at l = l.found ++ mentioned_in_postfixes l.fn.locals (postfix_list (drop l.at l.fn.parts)) ≡ l.initial.found ++ mentioned_in_postfixes l.fn.locals (postfix_list l.fn.parts)
