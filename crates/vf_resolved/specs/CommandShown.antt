-- Written by tools/gen_syntax.py: change it there.
-- What the code has of ghost commands, as pure data.
use Rattle.vf_resolved.specs.CommandTree.{CommandTree, command_list, CommandBranchTree, command_branch_list}
use Rattle.vf_resolved.specs.CommandTree as tree
use Rattle.vf_base.specs.declared.place.Place.{Place}
use Rattle.vf_resolved.specs.declared.command.CommandNode.{CommandNode}
use Rattle.vf_resolved.specs.declared.command.CommandNode.TheVariants as command_nodes

-- what a node stands for
abbrev pub command_of : Place → CommandNode → CommandTree
command_of p (command_nodes.Open a b c) = tree.open_ p a b c
command_of p (command_nodes.Close a b c) = tree.close_ p a b c
command_of p (command_nodes.Leak a) = tree.leak_ p a
command_of p (command_nodes.Assert a) = tree.assert_ p a
command_of p (command_nodes.Set a b) = tree.set p a b
command_of p (command_nodes.Call a b) = tree.call_ p a b
command_of p command_nodes.CallReal = tree.call_real p
command_of p (command_nodes.If a b c) = tree.if_ p a (command_list b) (command_list c)
command_of p (command_nodes.Switch a b) = tree.switch_ p a (command_branch_list b)
command_of p (command_nodes.Block a) = tree.block p (command_list a)
