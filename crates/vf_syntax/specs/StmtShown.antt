-- Written by tools/gen_syntax.py: change it there.
-- What the code has of statements, as pure data.
use Rattle.vf_syntax.specs.StmtTree.{StmtTree, stmt_list}
use Rattle.vf_syntax.specs.StmtTree as tree
use Rattle.vf_base.specs.declared.place.Place.{Place}
use Rattle.vf_syntax.specs.declared.stmt.StmtNode.{StmtNode}
use Rattle.vf_syntax.specs.declared.stmt.StmtNode.TheVariants as stmt_nodes

-- what a node stands for
abbrev pub stmt_of : Place → StmtNode → StmtTree
stmt_of p (stmt_nodes.Declaration a b c d) = tree.declaration p a b c d
stmt_of p (stmt_nodes.Simple a b) = tree.simple p a b
stmt_of p (stmt_nodes.If a b) = tree.if_ p a b.value
stmt_of p (stmt_nodes.IfElse a b c) = tree.if_else p a b.value c.value
stmt_of p (stmt_nodes.While a b c) = tree.while_ p a b c.value
stmt_of p (stmt_nodes.For a b c d f) = tree.for_ p a b c d f.value
stmt_of p (stmt_nodes.Return a b) = tree.return_ p a b
stmt_of p (stmt_nodes.Block a b) = tree.block p (stmt_list a) b
stmt_of p stmt_nodes.Empty = tree.empty_ p
stmt_of p (stmt_nodes.Ghost a) = tree.ghost p a
