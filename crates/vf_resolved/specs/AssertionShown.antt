-- Written by tools/gen_syntax.py: change it there.
-- What the code has of assertions, as pure data.
use Rattle.vf_resolved.specs.AssertionTree.{PartTree, part_list, BranchTree, branch_list}
use Rattle.vf_resolved.specs.AssertionTree as tree
use Rattle.vf_base.specs.declared.place.Place.{Place}
use Rattle.vf_resolved.specs.declared.assertion.PartNode.{PartNode}
use Rattle.vf_resolved.specs.declared.assertion.PartNode.TheVariants as part_nodes

-- what a node stands for
abbrev pub part_of : Place → PartNode → PartTree
part_of p (part_nodes.Pure a) = tree.pure p a
part_of p part_nodes.Empty = tree.empty_ p
part_of p (part_nodes.Group a) = tree.group p (part_list a)
part_of p (part_nodes.Conditional a b c) = tree.conditional p a (part_list b) (part_list c)
part_of p (part_nodes.Switch a b) = tree.switch_ p a (branch_list b)
part_of p (part_nodes.Cell a b c d) = tree.cell p a b c d
part_of p (part_nodes.Chunk a b c) = tree.chunk p a b c
