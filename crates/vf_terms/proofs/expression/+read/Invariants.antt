use Rattle.std.proofs.Common.{◌≡◌, ◌+◌, ◌*◌, drop}
use Rattle.vf_syntax.specs.GhostExprTree.{ghost_expr_list, ghost_expr_nodes, ghost_expr_nodes_all, ghost_link_list, ghost_link_nodes, ghost_link_nodes_all}
use Rattle.vf_terms.specs.Readings.{read_all, read_links}
use Rattle.vf_terms.specs.Settings.{setting_of}
use Rattle.vf_terms.proofs.Rows.{put_before}
use Rattle.vf_terms.proofs.expression.+read.Given as goal

abbrev pub decreases-read : goal.decreases-read
decreases-read l = 3 * ghost_expr_nodes l.expr.now

abbrev pub decreases-choice_of_pointers : goal.decreases-choice_of_pointers
decreases-choice_of_pointers l = 3 * (ghost_expr_nodes l.test.now + ghost_expr_nodes l.yes.now + ghost_expr_nodes l.no.now) + 1

abbrev pub decreases-choice : goal.decreases-choice
decreases-choice l = 3 * (ghost_expr_nodes l.test.now + ghost_expr_nodes l.yes.now + ghost_expr_nodes l.no.now) + 1

abbrev pub decreases-one_linked : goal.decreases-one_linked
decreases-one_linked l = 3 * ghost_link_nodes l.link.now

abbrev pub decreases-all_linked : goal.decreases-all_linked
decreases-all_linked l = 3 * ghost_link_nodes_all (ghost_link_list l.links.now)

-- what the operands that are left come to is what all come to
abbrev pub invariant-all_linked-loop-at : goal.invariant-all_linked-loop-at
invariant-all_linked-loop-at l = read_links (setting_of l.fn.setting) l.is_left_null l.left (ghost_link_list (drop l.at l.fn.links)) ≡ read_links (setting_of l.fn.setting) l.fn.is_start_null l.fn.start (ghost_link_list l.fn.links)

abbrev pub decreases-all_read : goal.decreases-all_read
decreases-all_read l = 3 * ghost_expr_nodes_all (ghost_expr_list l.arguments.now)

-- the arguments that were read, with those that are left, are all
abbrev pub invariant-all_read-loop-at : goal.invariant-all_read-loop-at
invariant-all_read-loop-at l =
    put_before l.row.terms (read_all (setting_of l.fn.setting) l.fn.first l.fn.scheme.parameters (drop l.at l.fn.scheme.arguments) l.row.next (ghost_expr_list (drop l.at l.fn.arguments)))
    ≡ read_all (setting_of l.fn.setting) l.fn.first l.fn.scheme.parameters l.fn.scheme.arguments l.fn.next (ghost_expr_list l.fn.arguments)

abbrev pub decreases-application : goal.decreases-application
decreases-application l = 3 * ghost_expr_nodes_all (ghost_expr_list l.arguments.now) + 1
