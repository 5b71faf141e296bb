use Rattle.std.proofs.Common.{◌≡◌, ◌++◌, drop}
use Rattle.vf_syntax.specs.GhostExprTree.{ghost_expr_nodes, ghost_expr_nodes_all, ghost_expr_list, ghost_link_nodes, ghost_link_nodes_all, ghost_link_list}
use Rattle.vf_mentions.specs.GhostText.{mentioned_in_ghost_arguments, mentioned_in_ghost_links}
use Rattle.vf_mentions.proofs.ghost_expr.+ghost_expr.Given as goal

abbrev pub decreases-find_in_ghost_expr : goal.decreases-find_in_ghost_expr
decreases-find_in_ghost_expr l = ghost_expr_nodes l.expr.now

abbrev pub decreases-find_in_ghost_arguments : goal.decreases-find_in_ghost_arguments
decreases-find_in_ghost_arguments l = ghost_expr_nodes_all (ghost_expr_list l.arguments.now)

-- what was found and what the arguments mention that are left
abbrev pub invariant-find_in_ghost_arguments-loop-at : goal.invariant-find_in_ghost_arguments-loop-at
invariant-find_in_ghost_arguments-loop-at l = l.found ++ mentioned_in_ghost_arguments l.fn.locals (ghost_expr_list (drop l.at l.fn.arguments)) ≡ l.initial.found ++ mentioned_in_ghost_arguments l.fn.locals (ghost_expr_list l.fn.arguments)

abbrev pub decreases-find_in_ghost_link : goal.decreases-find_in_ghost_link
decreases-find_in_ghost_link l = ghost_link_nodes l.link.now

abbrev pub decreases-find_in_ghost_links : goal.decreases-find_in_ghost_links
decreases-find_in_ghost_links l = ghost_link_nodes_all (ghost_link_list l.links.now)

-- the same of operands
abbrev pub invariant-find_in_ghost_links-loop-at : goal.invariant-find_in_ghost_links-loop-at
invariant-find_in_ghost_links-loop-at l = l.found ++ mentioned_in_ghost_links l.fn.locals (ghost_link_list (drop l.at l.fn.links)) ≡ l.initial.found ++ mentioned_in_ghost_links l.fn.locals (ghost_link_list l.fn.links)
