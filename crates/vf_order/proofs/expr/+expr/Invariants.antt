use Rattle.std.proofs.Common.{◌≡◌, drop}
use Rattle.vf_syntax.specs.ExprTree.{expr_nodes, expr_nodes_all, expr_list, link_nodes, link_nodes_all, link_list, postfix_nodes, postfix_nodes_all, postfix_list}
use Rattle.vf_order.specs.Walked.{all_seen, links_seen, parts_seen}
use Rattle.vf_order.proofs.Sums.{paired}
use Rattle.vf_order.proofs.expr.+expr.Given as goal

abbrev pub decreases-look : goal.decreases-look
decreases-look l = expr_nodes l.expr.now

abbrev pub decreases-look_at_arguments : goal.decreases-look_at_arguments
decreases-look_at_arguments l = expr_nodes_all (expr_list l.arguments.now)

-- what is kept and the arguments that are left come to the same
abbrev pub invariant-look_at_arguments-loop-at : goal.invariant-look_at_arguments-loop-at
invariant-look_at_arguments-loop-at l = all_seen l.kept (expr_list (drop l.at l.fn.arguments)) ≡ all_seen l.fn.operands (expr_list l.fn.arguments)

abbrev pub decreases-look_at_link : goal.decreases-look_at_link
decreases-look_at_link l = link_nodes l.link.now

abbrev pub decreases-look_at_links : goal.decreases-look_at_links
decreases-look_at_links l = link_nodes_all (link_list l.links.now)

-- what is kept and the operands that are left come to the same
abbrev pub invariant-look_at_links-loop-at : goal.invariant-look_at_links-loop-at
invariant-look_at_links-loop-at l = links_seen l.kept (link_list (drop l.at l.fn.links)) ≡ links_seen l.fn.operands (link_list l.fn.links)

abbrev pub decreases-look_at_operands : goal.decreases-look_at_operands
decreases-look_at_operands l = postfix_nodes l.part.now

abbrev pub decreases-look_at_parts : goal.decreases-look_at_parts
decreases-look_at_parts l = postfix_nodes_all (postfix_list l.parts.now)

-- what is kept and the reads and calls that are left come to the same
abbrev pub invariant-look_at_parts-loop-at : goal.invariant-look_at_parts-loop-at
invariant-look_at_parts-loop-at l = parts_seen l.fn.place l.kept (postfix_list (drop l.at l.fn.parts)) ≡ parts_seen l.fn.place (paired l.fn.before l.fn.before) (postfix_list l.fn.parts)
