use Rattle.std.proofs.Common.{◌≡◌, ◌<◌, length, drop}
use Rattle.vf_asking.specs.Course.{Reaches}
use Rattle.vf_asking.specs.Journal.{Grew, HasNode, path_at, seen}
use Rattle.vf_equality.specs.Equality.{all_equal}
use Rattle.vf_equality.proofs.equal.all_equal.Given as goal

-- the pairs so far are equal, and what is left comes to what all come to
abbrev pub invariant-loop-index : goal.invariant-loop-index
invariant-loop-index g l =
    let journal = g.A.Asker.journal in
    let path = path_at (journal l.fn.asker) l.at in
    record {
      begun : 0 < length (journal l.asker).units;
      there : HasNode (journal l.asker) l.at;
      first_there : HasNode (journal l.fn.asker) l.at;
      reaches : Reaches (all_equal l.place path l.left l.right) (seen (journal l.fn.asker)) (all_equal l.place path (drop l.index l.left) (drop l.index l.right)) (seen (journal l.asker));
      grew : Grew (journal l.fn.asker) (journal l.asker);
      origin : g.A.Asker.origin l.asker ≡ g.A.Asker.origin l.fn.asker;
    }
