use Rattle.std.proofs.Common.{◌≡◌, ◌<◌, ◌-◌, [], length}
use Rattle.vf_asking.specs.Course.{Reaches}
use Rattle.vf_asking.specs.Journal.{Grew, HasNode, path_at, seen}
use Rattle.vf_take.specs.Usable.{HeapCanBeCompared}
use Rattle.vf_take.specs.Merges.{merging}
use Rattle.vf_take.proofs.gather.merge_and_take.Given as goal

-- the chunks so far were tried with the younger ones that they take in, and what is left comes to what all come to
abbrev pub invariant-loop-round : goal.invariant-loop-round
invariant-loop-round g l =
    let journal = g.A.Asker.journal in
    record {
      begun : 0 < length (journal l.asker).units;
      there : HasNode (journal l.asker) l.node;
      before : HeapCanBeCompared l.before;
      left : HeapCanBeCompared l.rest;
      reaches : Reaches (merging (length l.fn.heap) l.places (path_at (journal l.fn.asker) l.fn.at) l.wanted [] l.fn.heap) (seen (journal l.fn.asker)) (merging (length l.fn.heap - l.round) l.places (path_at (journal l.asker) l.node) l.wanted l.before l.rest) (seen (journal l.asker));
      grew : Grew (journal l.fn.asker) (journal l.asker);
      origin : g.A.Asker.origin l.asker ≡ g.A.Asker.origin l.fn.asker;
    }
