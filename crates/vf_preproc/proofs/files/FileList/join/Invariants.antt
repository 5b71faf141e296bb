-- The files so far are there.
use Rattle.std.proofs.Common.{◌≡◌, take, fold}
use Rattle.vf_preproc.specs.UnitText.{with_file}
use Rattle.vf_preproc.proofs.files.FileList.join.Given as goal

abbrev pub invariant-loop-file : goal.invariant-loop-file
invariant-loop-file l = l.self ≡ fold with_file l.fn.self (take l.file-index l.others)
