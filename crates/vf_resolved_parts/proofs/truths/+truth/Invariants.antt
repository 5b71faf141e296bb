use Rattle.std.proofs.Common.{◌≡◌, ◌+◌, ◌*◌, drop}
use Rattle.vf_syntax.specs.GhostExprTree.{ghost_expr_nodes, ghost_link_list, ghost_link_nodes, ghost_link_nodes_all}
use Rattle.vf_terms.specs.Settings.{setting_of}
use Rattle.vf_resolved_parts.specs.Truths.{all_true, any_true}
use Rattle.vf_resolved_parts.proofs.truths.+truth.Given as goal

abbrev pub decreases-truth : goal.decreases-truth
decreases-truth l = 3 * ghost_expr_nodes l.expr.now

abbrev pub decreases-chosen : goal.decreases-chosen
decreases-chosen l = 3 * (ghost_expr_nodes l.test.now + ghost_expr_nodes l.yes.now + ghost_expr_nodes l.no.now) + 1

abbrev pub decreases-both_link : goal.decreases-both_link
decreases-both_link l = 3 * ghost_link_nodes l.link.now

abbrev pub decreases-all_true : goal.decreases-all_true
decreases-all_true l = 3 * ghost_link_nodes_all (ghost_link_list l.links.now)

abbrev pub invariant-all_true-loop-at : goal.invariant-all_true-loop-at
invariant-all_true-loop-at l = all_true (setting_of l.fn.setting) l.left (ghost_link_list (drop l.at l.fn.links)) ≡ all_true (setting_of l.fn.setting) l.fn.start (ghost_link_list l.fn.links)

abbrev pub decreases-either_link : goal.decreases-either_link
decreases-either_link l = 3 * ghost_link_nodes l.link.now

abbrev pub decreases-any_true : goal.decreases-any_true
decreases-any_true l = 3 * ghost_link_nodes_all (ghost_link_list l.links.now)

abbrev pub invariant-any_true-loop-at : goal.invariant-any_true-loop-at
invariant-any_true-loop-at l = any_true (setting_of l.fn.setting) l.left (ghost_link_list (drop l.at l.fn.links)) ≡ any_true (setting_of l.fn.setting) l.fn.start (ghost_link_list l.fn.links)
