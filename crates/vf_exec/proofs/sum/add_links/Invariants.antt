use Rattle.std.proofs.Common.{◌≡◌, ◌<◌, length, drop}
use Rattle.vf_asking.specs.Course.{Reaches}
use Rattle.vf_asking.specs.Journal.{Grew, HasNode, path_at, seen}
use Rattle.vf_exec.specs.Main.{adds}
use Rattle.vf_exec.specs.Small.{AreSmall, IsSmallTerm}
use Rattle.vf_exec.proofs.sum.add_links.Given as goal

-- the operands so far are added, and what is left comes to what the whole comes to
abbrev pub invariant-loop-link : goal.invariant-loop-link
invariant-loop-link g l =
    let journal = g.A.Asker.journal in
    let path = path_at (journal l.fn.asker) l.at in
    record {
      begun : 0 < length (journal l.asker).units;
      there : HasNode (journal l.asker) l.at;
      first_there : HasNode (journal l.fn.asker) l.at;
      small : IsSmallTerm l.sum;
      locals : AreSmall l.locals;
      reaches : Reaches (adds l.name path l.locals l.fn.first l.links) (seen (journal l.fn.asker)) (adds l.name path l.locals l.sum (drop l.link-index l.links)) (seen (journal l.asker));
      grew : Grew (journal l.fn.asker) (journal l.asker);
      origin : g.A.Asker.origin l.asker ≡ g.A.Asker.origin l.fn.asker;
    }
