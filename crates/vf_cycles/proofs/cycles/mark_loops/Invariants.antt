use Rattle.std.proofs.Common.{◌≡◌, ℕ, ◌<◌, length}
use Rattle.std.specs.Prelude.{slice_index}
use Rattle.vf_cycles.specs.Graphs.{Edge, IsMarked}
use Rattle.vf_cycles.proofs.cycles.mark_loops.Given as goal

abbrev pub invariant-loop-edge : goal.invariant-loop-edge
invariant-loop-edge l = record {
  nodes : length l.marks.items ≡ l.count;
  marked : (u : ℕ) → IsMarked l.marks.items u → Edge l.sources l.targets u u;
  each : (k u : ℕ) → k < l.edge → slice_index l.sources k ≡ u → slice_index l.targets k ≡ u → IsMarked l.marks.items u;
}
