use Rattle.std.proofs.Common.{ℕ, ◌<◌, slice_index_or, length, All}
use Rattle.vf_table.specs.declared.node.Node.{Node}
use Rattle.vf_table.proofs.node.parts_are_below.Given as goal

abbrev pub invariant-loop-node : goal.invariant-loop-node
invariant-loop-node l = (k : ℕ) (d : Node) → k < l.node-index → All (λ part. part < length l.nodes) (slice_index_or l.nodes k d).parts.items
