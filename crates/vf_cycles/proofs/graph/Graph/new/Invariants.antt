use Rattle.std.proofs.Common.{◌≡◌, ℕ, ◌<◌, length}
use Rattle.std.specs.Prelude.{slice_index}
use Rattle.vf_cycles.specs.Walks.{IsLast}
use Rattle.vf_cycles.proofs.graph.Graph.new.Given as goal

-- the first edges are chained
abbrev pub invariant-loop-edge : goal.invariant-loop-edge
invariant-loop-edge l = record {
  nodes : length l.last.items ≡ l.count;
  edges : length l.before.items ≡ l.edge;
  lasts : (u : ℕ) → u < l.count → IsLast l.sources u l.edge (slice_index l.last.items u);
  befores : (k : ℕ) → k < l.edge → IsLast l.sources (slice_index l.sources k) k (slice_index l.before.items k);
}
