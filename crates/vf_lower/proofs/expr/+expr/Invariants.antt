use Rattle.std.proofs.Common.{◌+◌, ◌*◌, List, ◌++◌, drop}
use Rattle.vf_syntax.specs.ExprTree.{expr_nodes, expr_nodes_all, expr_list, link_nodes, link_nodes_all, link_list, postfix_nodes, postfix_nodes_all, postfix_list}
use Rattle.vf_steps.specs.Tree.{ValueTree}
use Rattle.vf_steps.specs.Shown.{values_of}
use Rattle.vf_lower.specs.declared.draft.Draft.{Draft}
use Rattle.vf_lower.specs.Operands.{Outcome}
use Rattle.vf_lower.specs.Expressions.{arguments, links, parts}
use Rattle.vf_lower.specs.Shown.{left_of, setting_of}
use Rattle.vf_lower.specs.Did.{Did}
use Rattle.vf_lower.proofs.expr.+expr.Given as goal

abbrev pub decreases-lowered : goal.decreases-lowered
decreases-lowered l = 8 * expr_nodes l.expr.now

abbrev pub decreases-valued : goal.decreases-valued
decreases-valued l = 8 * expr_nodes l.expr.now + 1

abbrev pub decreases-tested : goal.decreases-tested
decreases-tested l = 8 * expr_nodes l.expr.now + 1

abbrev pub decreases-passed : goal.decreases-passed
decreases-passed l = 8 * expr_nodes l.expr.now + 2

abbrev pub decreases-passed_into : goal.decreases-passed_into
decreases-passed_into l = 8 * expr_nodes l.expr.now + 3

abbrev pub decreases-truth_into : goal.decreases-truth_into
decreases-truth_into l = 8 * expr_nodes l.expr.now + 3

abbrev pub decreases-negative : goal.decreases-negative
decreases-negative l = 8 * expr_nodes l.operand.now + 3

abbrev pub decreases-prefixed : goal.decreases-prefixed
decreases-prefixed l = 8 * expr_nodes l.operand.now + 4

abbrev pub decreases-arithmetic : goal.decreases-arithmetic
decreases-arithmetic l = 8 * expr_nodes l.operand.now + 4

abbrev pub decreases-pointer_sum : goal.decreases-pointer_sum
decreases-pointer_sum l = 8 * expr_nodes l.operand.now + 4

abbrev pub decreases-compared : goal.decreases-compared
decreases-compared l = 8 * expr_nodes l.operand.now + 4

abbrev pub decreases-both : goal.decreases-both
decreases-both l = 8 * expr_nodes l.operand.now + 4

abbrev pub decreases-one_of : goal.decreases-one_of
decreases-one_of l = 8 * expr_nodes l.operand.now + 4

abbrev pub decreases-sum : goal.decreases-sum
decreases-sum l = 8 * expr_nodes l.operand.now + 5

abbrev pub decreases-joined : goal.decreases-joined
decreases-joined l = 8 * expr_nodes l.operand.now + 6

abbrev pub decreases-linked : goal.decreases-linked
decreases-linked l = 8 * link_nodes l.link.now

abbrev pub decreases-links : goal.decreases-links
decreases-links l = 8 * link_nodes_all (link_list l.items.now)

-- what the operands that are left become is what is left of all of them
abbrev pub invariant-links-loop-at : goal.invariant-links-loop-at
invariant-links-loop-at l = (e : Draft) (a : Outcome) → Did (links (setting_of l.fn.setting) l.fn.place (left_of l.left) (link_list (drop l.at l.fn.items))) l.draft e a → Did (links (setting_of l.fn.setting) l.fn.place (left_of l.fn.start) (link_list l.fn.items)) l.initial.draft e a

abbrev pub decreases-chain : goal.decreases-chain
decreases-chain l = 8 * (expr_nodes l.start.now + link_nodes_all (link_list l.items.now)) + 1

abbrev pub decreases-choice : goal.decreases-choice
decreases-choice l = 8 * (expr_nodes l.so.now + expr_nodes l.otherwise.now) + 4

abbrev pub decreases-arguments : goal.decreases-arguments
decreases-arguments l = 8 * expr_nodes_all (expr_list l.items.now)

-- the values of the arguments that are left stand behind those so far
abbrev pub invariant-arguments-loop-at : goal.invariant-arguments-loop-at
invariant-arguments-loop-at l = (e : Draft) (vs : List ValueTree) → Did (arguments (setting_of l.fn.setting) (drop l.at l.fn.parameters) (expr_list (drop l.at l.fn.items))) l.draft e vs → Did (arguments (setting_of l.fn.setting) l.fn.parameters (expr_list l.fn.items)) l.initial.draft e (values_of l.values ++ vs)

abbrev pub decreases-call_arguments : goal.decreases-call_arguments
decreases-call_arguments l = 8 * expr_nodes_all (expr_list l.items.now) + 1

abbrev pub decreases-call : goal.decreases-call
decreases-call l = 8 * expr_nodes_all (expr_list l.items.now) + 2

abbrev pub decreases-element : goal.decreases-element
decreases-element l = 8 * expr_nodes l.index.now + 2

abbrev pub decreases-part_behind : goal.decreases-part_behind
decreases-part_behind l = 8 * postfix_nodes l.part.now

abbrev pub decreases-parts : goal.decreases-parts
decreases-parts l = 8 * postfix_nodes_all (postfix_list l.items.now)

-- what the reads and calls that are left become is what is left of all of them
abbrev pub invariant-parts-loop-at : goal.invariant-parts-loop-at
invariant-parts-loop-at l = (e : Draft) (a : Outcome) → Did (parts (setting_of l.fn.setting) l.fn.place (left_of l.left) (postfix_list (drop l.at l.fn.items))) l.draft e a → Did (parts (setting_of l.fn.setting) l.fn.place (left_of l.fn.start) (postfix_list l.fn.items)) l.initial.draft e a

abbrev pub decreases-freed : goal.decreases-freed
decreases-freed l = 8 * expr_nodes l.argument.now + 2

abbrev pub decreases-parts_behind : goal.decreases-parts_behind
decreases-parts_behind l = 8 * (expr_nodes l.start.now + postfix_nodes_all (postfix_list l.items.now)) + 1

abbrev pub decreases-postfix : goal.decreases-postfix
decreases-postfix l = 8 * (expr_nodes l.start.now + postfix_nodes_all (postfix_list l.items.now)) + 2
