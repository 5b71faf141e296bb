use Rattle.std.proofs.Common.{◌≡◌, ◌+◌, ◌*◌, ◌≤◌, length, drop, Result}
use Rattle.vf_base.specs.declared.refusal.RuleFault.{RuleFault}
use Rattle.vf_sorts.specs.Sorts.{Sort}
use Rattle.vf_sorts.specs.Unknowns.{IsBelow, Known}
use Rattle.vf_syntax.specs.GhostExprTree.{ghost_expr_list, ghost_expr_nodes, ghost_expr_nodes_all, ghost_link_list, ghost_link_nodes, ghost_link_nodes_all}
use Rattle.vf_sorting.specs.Answers.{AreChecked, AreLinked}
use Rattle.vf_sorting.proofs.sorts.+sorts.Given as goal

abbrev pub decreases-sorted : goal.decreases-sorted
decreases-sorted l = 5 * ghost_expr_nodes l.expr.now

abbrev pub decreases-checked : goal.decreases-checked
decreases-checked l = 5 * ghost_expr_nodes l.expr.now + 3

abbrev pub decreases-checked_at : goal.decreases-checked_at
decreases-checked_at l = 5 * ghost_expr_nodes l.expr.now + 2

abbrev pub decreases-compared : goal.decreases-compared
decreases-compared l = 5 * ghost_expr_nodes l.expr.now + 1

abbrev pub decreases-met : goal.decreases-met
decreases-met l = 5 * ghost_expr_nodes l.expr.now + 1

abbrev pub decreases-enclosed : goal.decreases-enclosed
decreases-enclosed l = 5 * ghost_expr_nodes l.inner.now + 1

abbrev pub decreases-chosen : goal.decreases-chosen
decreases-chosen l = 5 * (ghost_expr_nodes l.test.now + ghost_expr_nodes l.yes.now + ghost_expr_nodes l.no.now) + 4

abbrev pub decreases-prefixed : goal.decreases-prefixed
decreases-prefixed l = 5 * ghost_expr_nodes l.operand.now + 4

abbrev pub decreases-linked : goal.decreases-linked
decreases-linked l = 5 * ghost_link_nodes l.link.now

abbrev pub decreases-all_linked : goal.decreases-all_linked
decreases-all_linked l = 5 * ghost_link_nodes_all (ghost_link_list l.links.now)

-- what is answered for the operands that are left is the answer for all
abbrev pub invariant-all_linked-loop-at : goal.invariant-all_linked-loop-at
invariant-all_linked-loop-at l = record {
  place : l.left.place ≡ l.fn.start.place;
  below : IsBelow (length l.unknowns) l.left.sort;
  on : (r : Result Sort RuleFault) (k : Known) → AreLinked l.fn.scope l.fn.context l.unknowns l.left.is_null l.left.place l.left.sort (ghost_link_list (drop l.at l.fn.links)) r k → AreLinked l.fn.scope l.fn.context l.fn.unknowns l.fn.start.is_null l.fn.start.place l.fn.start.sort (ghost_link_list l.fn.links) r k;
}

abbrev pub decreases-chained : goal.decreases-chained
decreases-chained l = 5 * (ghost_expr_nodes l.start.now + ghost_link_nodes_all (ghost_link_list l.links.now)) + 1

abbrev pub decreases-passed : goal.decreases-passed
decreases-passed l = 5 * ghost_expr_nodes_all (ghost_expr_list l.arguments.now)

-- what is answered for the arguments that are left is the answer for all
abbrev pub invariant-passed-loop-at : goal.invariant-passed-loop-at
invariant-passed-loop-at l = record {
  room : l.fn.first + l.fn.scheme.parameters ≤ length l.unknowns;
  on : (r : Result (Unit {0}) RuleFault) (k : Known) → AreChecked l.fn.scope l.fn.context l.unknowns l.fn.first l.fn.scheme.parameters (drop l.at l.fn.scheme.arguments) (ghost_expr_list (drop l.at l.fn.arguments)) r k → AreChecked l.fn.scope l.fn.context l.fn.unknowns l.fn.first l.fn.scheme.parameters l.fn.scheme.arguments (ghost_expr_list l.fn.arguments) r k;
}

abbrev pub decreases-applied : goal.decreases-applied
decreases-applied l = 5 * ghost_expr_nodes_all (ghost_expr_list l.arguments.now) + 1
