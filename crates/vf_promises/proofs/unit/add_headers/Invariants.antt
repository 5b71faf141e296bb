use Rattle.std.proofs.Common.{◌≡◌, ◌++◌, drop}
use Rattle.vf_promises.specs.Lines.{used_lines}
use Rattle.vf_promises.proofs.unit.add_headers.Given as goal

-- with the lines that are still to come they are all
abbrev pub invariant-loop-header : goal.invariant-loop-header
invariant-loop-header l = l.all ++ used_lines l.snapshot l.scope (drop l.header-index l.headers) ≡ l.fn.all ++ used_lines l.snapshot l.scope l.headers
