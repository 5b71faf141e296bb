-- Written by tools/gen_syntax.py: change it there.
-- What the code has of expressions of real text, as pure data.
use Rattle.vf_syntax.specs.ExprTree.{ExprTree, expr_list, LinkTree, link_list, PostfixTree, postfix_list}
use Rattle.vf_syntax.specs.ExprTree as tree
use Rattle.vf_base.specs.declared.place.Place.{Place}
use Rattle.vf_syntax.specs.declared.expr.ExprNode.{ExprNode}
use Rattle.vf_syntax.specs.declared.expr.ExprNode.TheVariants as expr_nodes
use Rattle.vf_syntax.specs.declared.expr.PostfixNode.{PostfixNode}
use Rattle.vf_syntax.specs.declared.expr.PostfixNode.TheVariants as postfix_nodes

-- what a node stands for
abbrev pub expr_of : Place → ExprNode → ExprTree
expr_of p (expr_nodes.Number a b) = tree.number p a b
expr_of p (expr_nodes.Character a) = tree.character p a
expr_of p expr_nodes.True = tree.true_ p
expr_of p expr_nodes.False = tree.false_ p
expr_of p (expr_nodes.Name a) = tree.name_ p a
expr_of p (expr_nodes.Parenthesized a) = tree.parenthesized p a.value
expr_of p (expr_nodes.Malloc a) = tree.malloc p a
expr_of p (expr_nodes.MallocInts a b) = tree.malloc_ints p a.value b
expr_of p (expr_nodes.Postfix a b) = tree.postfix p a.value (postfix_list b)
expr_of p (expr_nodes.Unary a b) = tree.unary p a b.value
expr_of p (expr_nodes.Cast a b) = tree.cast p a b.value
expr_of p (expr_nodes.Chain a b c) = tree.chain p a b.value (link_list c)
expr_of p (expr_nodes.Conditional a b c) = tree.conditional p a.value b.value c.value

-- what a node stands for
abbrev pub postfix_of : Place → PostfixNode → PostfixTree
postfix_of p (postfix_nodes.Field a) = tree.field_ p a
postfix_of p (postfix_nodes.Index a) = tree.index_ p a
postfix_of p (postfix_nodes.Call a) = tree.call_ p (expr_list a)
