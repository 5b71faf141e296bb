use Rattle.std.proofs.Common.{◌≡◌, take}
use Rattle.vf_chunk.proofs.heap.copied.Given as goal

abbrev pub invariant-loop-chunk : goal.invariant-loop-chunk
invariant-loop-chunk l = l.copies ≡ take l.chunk-index l.chunk-items
