use Rattle.std.proofs.Common.{◌≡◌, ◌*◌, drop}
use Rattle.vf_syntax.specs.GhostExprTree.{ghost_expr_nodes, ghost_link_list, ghost_link_nodes, ghost_link_nodes_all}
use Rattle.vf_terms.specs.Settings.{setting_of}
use Rattle.vf_resolved_parts.specs.Truths.{sides}
use Rattle.vf_resolved_parts.proofs.truths.+side.Given as goal

abbrev pub decreases-side : goal.decreases-side
decreases-side l = 3 * ghost_expr_nodes l.expr.now

abbrev pub decreases-side_link : goal.decreases-side_link
decreases-side_link l = 3 * ghost_link_nodes l.link.now

abbrev pub decreases-sides : goal.decreases-sides
decreases-sides l = 3 * ghost_link_nodes_all (ghost_link_list l.links.now)

-- what the sides that are left come to is what all come to
abbrev pub invariant-sides-loop-at : goal.invariant-sides-loop-at
invariant-sides-loop-at l = sides (setting_of l.fn.setting) l.is_left_null l.left (ghost_link_list (drop l.at l.fn.links)) ≡ sides (setting_of l.fn.setting) l.fn.is_start_null l.fn.start (ghost_link_list l.fn.links)
