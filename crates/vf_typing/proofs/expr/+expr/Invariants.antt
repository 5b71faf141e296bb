use Rattle.std.proofs.Common.{◌≡◌, ◌+◌, ◌*◌, Ok, drop}
use Rattle.vf_syntax.specs.ExprTree.{expr_nodes, expr_nodes_all, expr_list, link_nodes, link_nodes_all, link_list, postfix_nodes, postfix_nodes_all, postfix_list}
use Rattle.vf_typing.specs.Typed.{typed_links, typed_parts, refused_argument}
use Rattle.vf_typing.proofs.expr.+expr.Given as goal

abbrev pub decreases-typed : goal.decreases-typed
decreases-typed l = 3 * expr_nodes l.expr.now

abbrev pub decreases-typed_inside : goal.decreases-typed_inside
decreases-typed_inside l = 3 * expr_nodes l.inner.now + 1

abbrev pub decreases-typed_ints : goal.decreases-typed_ints
decreases-typed_ints l = 3 * expr_nodes l.length.now + 1

abbrev pub decreases-typed_unary : goal.decreases-typed_unary
decreases-typed_unary l = 3 * expr_nodes l.operand.now + 1

abbrev pub decreases-typed_cast : goal.decreases-typed_cast
decreases-typed_cast l = 3 * expr_nodes l.operand.now + 1

abbrev pub decreases-typed_value : goal.decreases-typed_value
decreases-typed_value l = 3 * expr_nodes l.expr.now + 1

abbrev pub decreases-typed_conditional : goal.decreases-typed_conditional
decreases-typed_conditional l = 3 * (expr_nodes l.test.now + expr_nodes l.yes.now + expr_nodes l.no.now) + 2

abbrev pub decreases-typed_link : goal.decreases-typed_link
decreases-typed_link l = 3 * link_nodes l.link.now

abbrev pub decreases-typed_links : goal.decreases-typed_links
decreases-typed_links l = 3 * link_nodes_all (link_list l.links.now)

-- what is typed and the operands that are left come to the same
abbrev pub invariant-typed_links-loop-at : goal.invariant-typed_links-loop-at
invariant-typed_links-loop-at l = typed_links l.fn.scope (Ok l.left) (link_list (drop l.at l.fn.links)) ≡ typed_links l.fn.scope (Ok l.fn.start) (link_list l.fn.links)

abbrev pub decreases-typed_chain : goal.decreases-typed_chain
decreases-typed_chain l = 3 * (expr_nodes l.start.now + link_nodes_all (link_list l.links.now)) + 1

abbrev pub decreases-typed_postfix : goal.decreases-typed_postfix
decreases-typed_postfix l = 3 * (expr_nodes l.start.now + postfix_nodes_all (postfix_list l.parts.now)) + 1

abbrev pub decreases-typed_free : goal.decreases-typed_free
decreases-typed_free l = 3 * expr_nodes_all (expr_list l.arguments.now) + 1

abbrev pub decreases-typed_index : goal.decreases-typed_index
decreases-typed_index l = 3 * expr_nodes l.index.now + 1

abbrev pub decreases-typed_part : goal.decreases-typed_part
decreases-typed_part l = 3 * postfix_nodes l.part.now

abbrev pub decreases-typed_parts : goal.decreases-typed_parts
decreases-typed_parts l = 3 * postfix_nodes_all (postfix_list l.parts.now)

-- what is typed and the reads and calls that are left come to the same
abbrev pub invariant-typed_parts-loop-at : goal.invariant-typed_parts-loop-at
invariant-typed_parts-loop-at l = typed_parts l.fn.scope (Ok l.operand) (postfix_list (drop l.at l.fn.parts)) ≡ typed_parts l.fn.scope (Ok l.fn.start) (postfix_list (drop l.fn.from l.fn.parts))

abbrev pub decreases-typed_call : goal.decreases-typed_call
decreases-typed_call l = 3 * expr_nodes_all (expr_list l.arguments.now) + 1

abbrev pub decreases-assigned : goal.decreases-assigned
decreases-assigned l = 3 * expr_nodes l.expr.now + 1

abbrev pub decreases-refused_argument : goal.decreases-refused_argument
decreases-refused_argument l = 3 * expr_nodes_all (expr_list l.arguments.now)

-- the first refusal among the arguments that are left is the first of all
abbrev pub invariant-refused_argument-loop-at : goal.invariant-refused_argument-loop-at
invariant-refused_argument-loop-at l = refused_argument l.fn.scope (drop l.at l.fn.parameters) (expr_list (drop l.at l.fn.arguments)) ≡ refused_argument l.fn.scope l.fn.parameters (expr_list l.fn.arguments)
