-- Written by tools/gen_syntax.py: change it there.
-- What the code has of ghost commands, as pure data.
use Rattle.vf_syntax.specs.GhostCommandTree.{GhostCommandTree, ghost_command_list, CommandCaseTree, command_case_list}
use Rattle.vf_syntax.specs.GhostCommandTree as tree
use Rattle.vf_base.specs.declared.place.Place.{Place}
use Rattle.vf_syntax.specs.declared.ghost_command.GhostCommandNode.{GhostCommandNode}
use Rattle.vf_syntax.specs.declared.ghost_command.GhostCommandNode.TheVariants as ghost_command_nodes

-- what a node stands for
abbrev pub ghost_command_of : Place → GhostCommandNode → GhostCommandTree
ghost_command_of p (ghost_command_nodes.Open a b c d) = tree.open_ p a b c d
ghost_command_of p (ghost_command_nodes.Close a b c d) = tree.close_ p a b c d
ghost_command_of p (ghost_command_nodes.Leak a) = tree.leak_ p a
ghost_command_of p (ghost_command_nodes.Assert a) = tree.assert_ p a
ghost_command_of p (ghost_command_nodes.Declaration a b c) = tree.declaration p a b c
ghost_command_of p (ghost_command_nodes.Assignment a b) = tree.assignment p a b
ghost_command_of p (ghost_command_nodes.Call a b) = tree.call_ p a b
ghost_command_of p (ghost_command_nodes.If a b) = tree.if_ p a (ghost_command_list b)
ghost_command_of p (ghost_command_nodes.IfElse a b c) = tree.if_else p a (ghost_command_list b) (ghost_command_list c)
ghost_command_of p (ghost_command_nodes.Switch a b) = tree.switch_ p a (command_case_list b)
ghost_command_of p (ghost_command_nodes.Block a) = tree.block p (ghost_command_list a)
