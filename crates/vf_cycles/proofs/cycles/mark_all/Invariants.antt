use Rattle.std.proofs.Common.{◌≡◌, ◌⊎◌, ℕ, take, length}
use Rattle.std.specs.Prelude.{Contains}
use Rattle.vf_cycles.specs.Graphs.{IsMarked}
use Rattle.vf_cycles.proofs.cycles.mark_all.Given as goal

abbrev pub invariant-loop-node : goal.invariant-loop-node
invariant-loop-node l = record {
  nodes : length l.marks.items ≡ length l.initial.marks.items;
  marked : (u : ℕ) → IsMarked l.marks.items u → IsMarked l.initial.marks.items u ⊎ Contains l.nodes u;
  kept : (u : ℕ) → IsMarked l.initial.marks.items u → IsMarked l.marks.items u;
  each : (u : ℕ) → Contains (take l.node-index l.nodes) u → IsMarked l.marks.items u;
}
