use Rattle.std.proofs.Common.{◌≡◌, ◌<◌, length, drop, false}
use Rattle.vf_asking.specs.Course.{Reaches}
use Rattle.vf_asking.specs.Journal.{Grew, HasNode, path_at, seen}
use Rattle.vf_take.specs.Fits.{all_match}
use Rattle.vf_take.proofs.fits.compare_arguments.Given as goal

-- the arguments so far match, and what is left comes to what all come to
abbrev pub invariant-loop-index : goal.invariant-loop-index
invariant-loop-index g l =
    let journal = g.A.Asker.journal in
    let path = path_at (journal l.fn.asker) l.at in
    record {
      begun : 0 < length (journal l.asker).units;
      there : HasNode (journal l.asker) l.at;
      first_there : HasNode (journal l.fn.asker) l.at;
      reaches : Reaches (all_match l.place path false l.arguments l.patterns) (seen (journal l.fn.asker)) (all_match l.place path l.lacks (drop l.index l.arguments) (drop l.index l.patterns)) (seen (journal l.asker));
      grew : Grew (journal l.fn.asker) (journal l.asker);
      origin : g.A.Asker.origin l.asker ≡ g.A.Asker.origin l.fn.asker;
    }
