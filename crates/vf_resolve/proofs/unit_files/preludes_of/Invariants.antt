use Rattle.std.proofs.Common.{◌≡◌, ◌++◌, drop, filter}
use Rattle.vf_resolve.specs.UnitFiles.{is_prelude}
use Rattle.vf_resolve.proofs.unit_files.preludes_of.Given as goal

-- the preludes that were found and those that are left come to all
abbrev pub invariant-loop-file : goal.invariant-loop-file
invariant-loop-file l = filter (is_prelude l.snapshot) l.files ≡ l.preludes ++ filter (is_prelude l.snapshot) (drop l.file-index l.files)
