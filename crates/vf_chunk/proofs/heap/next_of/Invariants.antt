use Rattle.std.proofs.Common.{◌≡◌, ◌+◌, ◌-◌, ◌≤◌, drop, length}
use Rattle.vf_chunk.specs.Heaps.{first_of}
use Rattle.vf_chunk.proofs.heap.next_of.Given as goal

abbrev pub invariant-loop-at : goal.invariant-loop-at
invariant-loop-at l = record {
  within : l.at ≤ length l.chunks;
  first : l.at + first_of l.name (drop l.at l.chunks) ≡ l.from + first_of l.name (drop l.from l.chunks);
}

abbrev pub decreases-loop-at : goal.decreases-loop-at
decreases-loop-at l = length l.chunks - l.at
