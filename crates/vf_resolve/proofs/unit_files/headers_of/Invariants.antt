use Rattle.std.proofs.Common.{◌≡◌, ◌-◌, drop, length}
use Rattle.vf_resolve.specs.UnitFiles.{headers_of}
use Rattle.vf_resolve.proofs.unit_files.headers_of.Given as goal

-- the last files are there
abbrev pub invariant-loop-done : goal.invariant-loop-done
invariant-loop-done l = l.headers ≡ headers_of (drop (length l.files - l.done) l.files) (drop (length l.files - l.done) l.includes) l.snapshot
