use Rattle.std.proofs.Common.{◌≡◌, drop}
use Rattle.vf_syntax.specs.GhostExprTree.{ghost_expr_nodes, ghost_expr_nodes_all, ghost_expr_list, ghost_link_nodes, ghost_link_nodes_all, ghost_link_list}
use Rattle.vf_fixpoint.specs.Calls.{first_stray_of, first_stray_in}
use Rattle.vf_fixpoint.specs.Kept.{recursion_of}
use Rattle.vf_fixpoint.proofs.calls.+stray.Given as goal

abbrev pub decreases-first_stray : goal.decreases-first_stray
decreases-first_stray l = ghost_expr_nodes l.expr.now

abbrev pub decreases-stray_of : goal.decreases-stray_of
decreases-stray_of l = ghost_expr_nodes_all (ghost_expr_list l.arguments.now)

-- the arguments that are left come to the same
abbrev pub invariant-stray_of-loop-at : goal.invariant-stray_of-loop-at
invariant-stray_of-loop-at l = first_stray_of (recursion_of l.fn.recursion) (ghost_expr_list (drop l.at l.fn.arguments)) ≡ first_stray_of (recursion_of l.fn.recursion) (ghost_expr_list l.fn.arguments)

abbrev pub decreases-stray_behind : goal.decreases-stray_behind
decreases-stray_behind l = ghost_link_nodes l.link.now

abbrev pub decreases-stray_in : goal.decreases-stray_in
decreases-stray_in l = ghost_link_nodes_all (ghost_link_list l.links.now)

-- the operands that are left come to the same
abbrev pub invariant-stray_in-loop-at : goal.invariant-stray_in-loop-at
invariant-stray_in-loop-at l = first_stray_in (recursion_of l.fn.recursion) (ghost_link_list (drop l.at l.fn.links)) ≡ first_stray_in (recursion_of l.fn.recursion) (ghost_link_list l.fn.links)
