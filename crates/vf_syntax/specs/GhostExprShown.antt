-- Written by tools/gen_syntax.py: change it there.
-- What the code has of expressions of ghost text, as pure data.
use Rattle.vf_syntax.specs.GhostExprTree.{GhostExprTree, ghost_expr_list, GhostLinkTree, ghost_link_list}
use Rattle.vf_syntax.specs.GhostExprTree as tree
use Rattle.vf_base.specs.declared.place.Place.{Place}
use Rattle.vf_syntax.specs.declared.ghost_expr.GhostExprNode.{GhostExprNode}
use Rattle.vf_syntax.specs.declared.ghost_expr.GhostExprNode.TheVariants as ghost_expr_nodes

-- what a node stands for
abbrev pub ghost_expr_of : Place → GhostExprNode → GhostExprTree
ghost_expr_of p (ghost_expr_nodes.Number a b) = tree.number p a b
ghost_expr_of p ghost_expr_nodes.True = tree.true_ p
ghost_expr_of p ghost_expr_nodes.False = tree.false_ p
ghost_expr_of p ghost_expr_nodes.Result = tree.result p
ghost_expr_of p ghost_expr_nodes.This = tree.this_ p
ghost_expr_of p ghost_expr_nodes.CurrentThread = tree.current_thread p
ghost_expr_of p (ghost_expr_nodes.Name a) = tree.name_ p a
ghost_expr_of p (ghost_expr_nodes.Application a b) = tree.application p a (ghost_expr_list b)
ghost_expr_of p (ghost_expr_nodes.Parenthesized a) = tree.parenthesized p a.value
ghost_expr_of p (ghost_expr_nodes.Conditional a b c) = tree.conditional p a.value b.value c.value
ghost_expr_of p (ghost_expr_nodes.Unary a b) = tree.unary p a b.value
ghost_expr_of p (ghost_expr_nodes.Chain a b c) = tree.chain p a b.value (ghost_link_list c)
