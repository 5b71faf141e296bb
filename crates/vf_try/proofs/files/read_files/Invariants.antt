use Rattle.std.proofs.Common.{[], take, map}
use Rattle.vf_expand.specs.Worlds.{world, Reads}
use Rattle.vf_words.specs.Commands.{paths_of}
use Rattle.vf_try.specs.Files.{FilesRead, file_of}
use Rattle.vf_try.proofs.files.read_files.Given as goal

-- the files of the words so far were read
abbrev pub invariant-loop-word : goal.invariant-loop-word
invariant-loop-word g l = record {
  read : FilesRead (g.F.Files.contents l.fn.files) [] (paths_of (take l.word-index l.words)) (map file_of l.read.items) l.snapshot;
  reads : Reads
      (world [] (g.F.Files.contents l.fn.files) (g.F.Files.failures l.fn.files) (g.F.Files.absences l.fn.files) (g.F.Files.put_failures l.fn.files))
      (world l.snapshot (g.F.Files.contents l.files) (g.F.Files.failures l.files) (g.F.Files.absences l.files) (g.F.Files.put_failures l.files));
}
