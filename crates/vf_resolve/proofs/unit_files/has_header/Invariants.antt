use Rattle.std.proofs.Common.{◌≡◌, drop}
use Rattle.vf_resolve.specs.UnitFiles.{has_header}
use Rattle.vf_resolve.proofs.unit_files.has_header.Given as goal

-- whether one is found among those that are left says whether one is found
abbrev pub invariant-loop-header : goal.invariant-loop-header
invariant-loop-header l = has_header l.snapshot l.path (drop l.header-index l.headers) ≡ has_header l.snapshot l.path l.headers
