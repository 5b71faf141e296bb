use Rattle.std.proofs.Common.{◌≡◌, ◌<◌, length, drop}
use Rattle.vf_asking.specs.Course.{Reaches}
use Rattle.vf_asking.specs.Journal.{Grew, HasNode, path_at, seen}
use Rattle.vf_take.specs.Merges.{learns}
use Rattle.vf_take.proofs.merge.learn_arguments.Given as goal

-- the arguments so far are told to be equal at the node
abbrev pub invariant-loop-index : goal.invariant-loop-index
invariant-loop-index g l =
    let journal = g.A.Asker.journal in
    record {
      begun : 0 < length (journal l.asker).units;
      there : HasNode (journal l.asker) l.node;
      reaches : Reaches (learns l.place (path_at (journal l.fn.asker) l.fn.at) (drop 1 l.older) (drop 1 l.younger)) (seen (journal l.fn.asker)) (learns l.place (path_at (journal l.asker) l.node) (drop l.index l.older) (drop l.index l.younger)) (seen (journal l.asker));
      grew : Grew (journal l.fn.asker) (journal l.asker);
      origin : g.A.Asker.origin l.asker ≡ g.A.Asker.origin l.fn.asker;
    }
