use Rattle.std.proofs.Common.{◌≡◌, ◌<◌, length}
use Rattle.vf_asking.specs.Course.{Reaches}
use Rattle.vf_asking.specs.Journal.{Grew, HasNode, path_at, seen}
use Rattle.vf_take.specs.Usable.{ChunkCanBeCompared, HeapCanBeCompared}
use Rattle.vf_take.specs.Merges.{gathers, alone}
use Rattle.vf_take.proofs.gather.gather.Given as goal

-- the younger chunks so far are taken in or stay, and what is left comes to what all come to
abbrev pub invariant-loop-alloc : goal.invariant-loop-alloc
invariant-loop-alloc g l =
    let journal = g.A.Asker.journal in
    record {
      begun : 0 < length (journal l.asker).units;
      there : HasNode (journal l.asker) l.node;
      chunk : ChunkCanBeCompared l.gathered.chunk;
      stay : HeapCanBeCompared l.gathered.stay;
      left : HeapCanBeCompared l.rest;
      reaches : Reaches (gathers l.places (path_at (journal l.fn.asker) l.fn.at) (alone l.fn.chunk) l.fn.younger) (seen (journal l.fn.asker)) (gathers l.places (path_at (journal l.asker) l.node) l.gathered l.rest) (seen (journal l.asker));
      grew : Grew (journal l.fn.asker) (journal l.asker);
      origin : g.A.Asker.origin l.asker ≡ g.A.Asker.origin l.fn.asker;
    }

abbrev pub decreases-loop-alloc : goal.decreases-loop-alloc
decreases-loop-alloc g l = length l.rest
