-- Written by tools/gen_syntax.py: change it there.
-- What the code has of sorts, as pure data.
use Rattle.vf_syntax.specs.SortTree.{SortTree, sort_list}
use Rattle.vf_syntax.specs.SortTree as tree
use Rattle.vf_base.specs.declared.place.Place.{Place}
use Rattle.vf_syntax.specs.declared.sort.SortNode.{SortNode}
use Rattle.vf_syntax.specs.declared.sort.SortNode.TheVariants as sort_nodes

-- what a node stands for
abbrev pub sort_of : Place → SortNode → SortTree
sort_of p sort_nodes.Real = tree.real_ p
sort_of p sort_nodes.Any = tree.any_ p
sort_of p (sort_nodes.Type a) = tree.type_ p a
sort_of p (sort_nodes.Name a b) = tree.name_ p a (sort_list b)
sort_of p (sort_nodes.Predicate a) = tree.predicate_ p (sort_list a)
