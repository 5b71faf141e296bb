use Rattle.std.proofs.Common.{◌≡◌, ◌++◌, map, take}
use Rattle.vf_try.specs.Answers.{file_lines}
use Rattle.vf_try.specs.Files.{file_of}
use Rattle.vf_try.proofs.answer.push_files.Given as goal

-- the files so far were printed
abbrev pub invariant-loop-file : goal.invariant-loop-file
invariant-loop-file l = l.text ≡ l.fn.text ++ file_lines l.snapshot (map file_of (take l.file-index l.files))
