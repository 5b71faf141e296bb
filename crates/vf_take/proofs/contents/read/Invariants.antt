use Rattle.std.proofs.Common.{◌≡◌, ◌<◌, ◌≤◌, ◌-◌, length, drop, get_or, true}
use Rattle.vf_asking.specs.Course.{Reaches}
use Rattle.vf_asking.specs.Journal.{Grew, HasNode, path_at, seen}
use Rattle.vf_chunk.specs.declared.chunk.Chunk.{Chunk}
use Rattle.vf_chunk.specs.Heads.{is_one_name}
use Rattle.vf_take.specs.Reads.{reads}
use Rattle.vf_take.proofs.contents.read.Given as goal

-- no cell before the place is at the pointer, and the chunk there is of the field
abbrev pub invariant-loop-place : goal.invariant-loop-place
invariant-loop-place g l =
    let journal = g.A.Asker.journal in
    let path = path_at (journal l.fn.asker) l.at in
    record {
      begun : 0 < length (journal l.asker).units;
      there : HasNode (journal l.asker) l.at;
      first_there : HasNode (journal l.fn.asker) l.at;
      within : l.place ≤ length l.heap;
      one_name : (d : Chunk) → l.place < length l.heap → is_one_name (get_or l.heap l.place d).head.name l.name ≡ true;
      reaches : Reaches (reads l.places path l.name l.pointer l.heap) (seen (journal l.fn.asker)) (reads l.places path l.name l.pointer (drop l.place l.heap)) (seen (journal l.asker));
      grew : Grew (journal l.fn.asker) (journal l.asker);
      origin : g.A.Asker.origin l.asker ≡ g.A.Asker.origin l.fn.asker;
    }

abbrev pub decreases-loop-place : goal.decreases-loop-place
decreases-loop-place g l = length l.heap - l.place
