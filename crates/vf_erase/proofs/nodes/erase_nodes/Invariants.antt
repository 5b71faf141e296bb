use Rattle.std.proofs.Common.{◌≡◌, ◌++◌, length, drop, take}
use Rattle.vf_steps.specs.Shown.{nodes_of}
use Rattle.vf_functions.specs.Erased.{erased, erased_behind}
use Rattle.vf_erase.proofs.nodes.erase_nodes.Given as goal

-- the nodes that are left stand as they stood; what was kept, and what is kept of the nodes that are left, are all that is kept
abbrev pub invariant-loop-at : goal.invariant-loop-at
invariant-loop-at l =
    (length l.left.items ≡ length l.fn.nodes.items)
    × (drop l.at l.left.items ≡ drop l.at l.fn.nodes.items)
    × (nodes_of l.kept.items ++ erased_behind (take l.at (nodes_of l.fn.nodes.items)) (drop l.at (nodes_of l.fn.nodes.items)) ≡ erased (nodes_of l.fn.nodes.items))
