use Rattle.std.proofs.Common.{◌≡◌, ◌++◌, [], drop}
use Rattle.vf_resolve.specs.UnitFiles.{headers_of}
use Rattle.vf_resolve.proofs.unit_files.no_headers.Given as goal

-- the entries that are there and those that are left come to all
abbrev pub invariant-loop-number : goal.invariant-loop-number
invariant-loop-number l = l.headers ++ headers_of [] [] (drop l._number l.snapshot) ≡ headers_of [] [] l.snapshot
