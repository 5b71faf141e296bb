use Rattle.std.proofs.Common.{◌≡◌, ◌≤◌, ◌++◌, drop}
use Rattle.vf_steps.specs.Shown.{nodes_of}
use Rattle.vf_erase.specs.Counting.{counts_behind, counts_of}
use Rattle.vf_erase.proofs.counts.count_nodes.Given as goal

-- the counts so far, and those of the nodes that are left, are all counts; no more are kept than were counted
abbrev pub invariant-loop-at : goal.invariant-loop-at
invariant-loop-at l = (l.counts ++ counts_behind l.count (drop l.at (nodes_of l.nodes.items)) ≡ counts_of (nodes_of l.nodes.items)) × (l.count ≤ l.at)
